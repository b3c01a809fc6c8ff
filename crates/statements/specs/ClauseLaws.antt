-- The laws of clauses. Assumes nothing.
use Rattle.std.specs.Prelude.{◌≡◌, ℕ, zero, suc, ◌≤◌, max, Bool, true, false, not, ◌&&◌, ◌||◌, ◌⊎◌, ℤ, pos, negsuc, Some, None, Option, ◌==◌, ◌≢◌, refl}
use Rattle.std.proofs.Common.{sym, ap, ap₂, subst, ◌∙◌, inl, inr, arith, lit<}
use Rattle.std.proofs.lemmas.Bool.{true_from_ne_false, cond-false, both_ways, and_parts, or_cases, or_left, or_right, not-true, not_from_false, cases_eq, eq-eqb, eqb-true, cond-true}
use Rattle.std.proofs.lemmas.Bool.Decides.{nat_tests, same_from_decides}
use Rattle.std.proofs.lemmas.Option.{none-some}
use Rattle.std.specs.Option.{option_map}
use Rattle.points.specs.Sets.{member, single, joined, without, is_empty, subset, greatest, some_of}
use Rattle.points.specs.declared.set.PointSet.{PointSet}
use Rattle.points.proofs.Members.{member-joined, member-without, member-single, member_positive, member_small, empty_decides, some_not_empty, zero_none}
use Rattle.points.proofs.Sizes.{member-last, greatest_below, some_member}
use Rattle.points.proofs.Counts.{some_decides, some_agree}
use Rattle.statements.specs.Kind.{Sound, Exact}
use Rattle.statements.specs.Literals.{names, point_of, true_in, named, true_at, opposed, resolvent}
use Rattle.statements.specs.Clauses.{clause_core, clause_kind, clause_of, Fits}
use Rattle.statements.specs.declared.clause.Clause.{Clause}
use Rattle.statements.specs.declared.literals.LiteralSet.{LiteralSet}
use Rattle.statements.specs.LiteralLaws.{never_both, clear_parts, within_decides}

-- the point of a literal of the clause is one that it names
pub names_point : (c : Clause) (z : ℤ) → names c.literals z ≡ true → member (named c.literals) (point_of z) ≡ true
names_point c (pos p) h = member-joined c.literals.yes c.literals.no p ∙ or_left (member c.literals.yes p) (member c.literals.no p) h
names_point c (negsuc k) h = member-joined c.literals.yes c.literals.no (suc k) ∙ or_right (member c.literals.yes (suc k)) (member c.literals.no (suc k)) h

-- ---- holds

-- a true literal makes the clause true at its point
true_at_lem : (c : Clause) (a : ℕ → Bool) (z : ℤ) → names c.literals z ≡ true → true_in a z ≡ true → true_at c.literals a (point_of z) ≡ true
true_at_lem c a (pos p) h t = grind (arith, nat_tests)
true_at_lem c a (negsuc k) h t = grind (arith, nat_tests)

denies : (c : Clause) (a : ℕ → Bool) (p : ℕ) → member c.literals.no p ≡ true → not (a p) ≡ true → Fits c a
denies c a zero h t = absurd (both_ways (member c.literals.no 0) (zero_none c.literals.no) h)
denies c a (suc k) h t = (negsuc k, h, t)

from_true_at : (c : Clause) (a : ℕ → Bool) (p : ℕ) → true_at c.literals a p ≡ true → Fits c a
from_true_at c a p h = go (or_cases (member c.literals.yes p && a p) (member c.literals.no p && not (a p)) h)
  where
    go : ((member c.literals.yes p && a p) ≡ true) ⊎ ((member c.literals.no p && not (a p)) ≡ true) → Fits c a
    go (inl e) = let b = and_parts (member c.literals.yes p) (a p) e in (pos p, b.0, b.1)
    go (inr e) = let b = and_parts (member c.literals.no p) (not (a p)) e in denies c a p b.0 b.1

pub holds_yes : (c : Clause) (a : ℕ → Bool) → some_of (true_at c.literals a) (greatest (named c.literals)) ≡ true → Fits c a
holds_yes c a h = let f = (some_decides (true_at c.literals a) (greatest (named c.literals))).0 h in from_true_at c a f.0 f.3

pub holds_no : (c : Clause) (a : ℕ → Bool) → Fits c a → some_of (true_at c.literals a) (greatest (named c.literals)) ≡ true
holds_no c a f =
    let m = names_point c f.0 f.1 in
    (some_decides (true_at c.literals a) (greatest (named c.literals))).1
    (point_of f.0, member_positive (named c.literals) (point_of f.0) m, member-last (named c.literals) (point_of f.0) m, true_at_lem c a f.0 f.1 f.2)

near : (c : Clause) (a b : ℕ → Bool) → ((p : ℕ) → 1 ≤ p → p ≤ greatest (named c.literals) → a p ≡ b p)
    → some_of (true_at c.literals a) (greatest (named c.literals)) ≡ some_of (true_at c.literals b) (greatest (named c.literals))
near c a b h =
    some_agree (true_at c.literals a) (true_at c.literals b) (greatest (named c.literals))
    (λ p l u. ap (λ (t : Bool). member c.literals.yes p && t || member c.literals.no p && not t) (h p l u))

-- a set of the points at which the clause is true tells whether it holds
pub holds_set : (c : Clause) (a : ℕ → Bool) (s : PointSet) → ((p : ℕ) → member s p ≡ true_at c.literals a p) → not (is_empty s) ≡ some_of (true_at c.literals a) (greatest (named c.literals))
holds_set c a s at =
    same_from_decides (not (is_empty s)) (some_of (true_at c.literals a) (greatest (named c.literals))) (
      λ e. let m = some_member s (not-true (is_empty s) e) in from_true_at c a m.0 (sym (at m.0) ∙ m.1),
      λ f. not_from_false (is_empty s) (some_not_empty s (point_of f.0) (at (point_of f.0) ∙ true_at_lem c a f.0 f.1 f.2)),
    )
    (holds_yes c a, holds_no c a)

-- ---- impossible

impossible_yes : (c : Clause) → is_empty (named c.literals) ≡ true → (a : ℕ → Bool) → Fits c a → ⊥
impossible_yes c e a f =
    both_ways (member (named c.literals) (point_of f.0)) ((empty_decides (named c.literals)).0 e (point_of f.0)) (names_point c f.0 f.1)

impossible_no : (c : Clause) → ((a : ℕ → Bool) → Fits c a → ⊥) → is_empty (named c.literals) ≡ true
impossible_no c h =
    true_from_ne_false (is_empty (named c.literals)) (λ e.
    let s = some_member (named c.literals) e in
    point s.0 (or_cases (member c.literals.yes s.0) (member c.literals.no s.0) (sym (member-joined c.literals.yes c.literals.no s.0) ∙ s.1)))
  where
    point : (p : ℕ) → (member c.literals.yes p ≡ true) ⊎ (member c.literals.no p ≡ true) → ⊥
    point p (inl y) = h (λ _. true) (pos p, y, refl)
    point p (inr n) = h (λ _. false) (denies c (λ _. false) p n refl)

-- ---- covers

covers_yes : (c d : Clause) → (subset c.literals.yes d.literals.yes && subset c.literals.no d.literals.no) ≡ true
    → (a : ℕ → Bool) → Fits c a → Fits d a
covers_yes c d e a f = (f.0, (within_decides c.literals d.literals).0 e f.0 f.1, f.2)

-- an assignment that makes every literal of d false, and the point p yes where d does not name it
opposite : Clause → ℕ → ℕ → Bool
opposite d p q = member d.literals.no q || q == p

opposite_fails : (d : Clause) (p : ℕ) → member d.literals.yes p ≡ false → Fits d (opposite d p) → ⊥
unfolding opposite
opposite_fails d p out (pos q, h, t) = go (or_cases (member d.literals.no q) (q == p) t)
  where
    go : (member d.literals.no q ≡ true) ⊎ ((q == p) ≡ true) → ⊥
    go (inl n) = never_both d.literals q h n
    go (inr e) = both_ways (member d.literals.yes p) out (sym (ap (member d.literals.yes) (eqb-true q p e)) ∙ h)
opposite_fails d p out (negsuc k, h, t) =
    both_ways (opposite d p (suc k)) (not-true (opposite d p (suc k)) t) (or_left (member d.literals.no (suc k)) (suc k == p) h)

-- the assignment that is yes just where d denies makes every literal of d false
denials_fail : (d : Clause) → Fits d (member d.literals.no) → ⊥
denials_fail d (pos q, h, t) = never_both d.literals q h t
denials_fail d (negsuc k, h, t) = both_ways (member d.literals.no (suc k)) (not-true (member d.literals.no (suc k)) t) h

covers_no : (c d : Clause) → ((a : ℕ → Bool) → Fits c a → Fits d a)
    → (subset c.literals.yes d.literals.yes && subset c.literals.no d.literals.no) ≡ true
unfolding opposite
covers_no c d h = (within_decides c.literals d.literals).1 has
  where
    has : (z : ℤ) → names c.literals z ≡ true → names d.literals z ≡ true
    has (pos p) m =
        true_from_ne_false (member d.literals.yes p)
        (λ out. opposite_fails d p out (h (opposite d p) (pos p, m, or_right (member d.literals.no p) (p == p) (eq-eqb p p refl))))
    has (negsuc k) m =
        true_from_ne_false (member d.literals.no (suc k))
        (λ out. denials_fail d (h (member d.literals.no) (negsuc k, m, not_from_false (member d.literals.no (suc k)) out)))

pub clause_exact : Exact clause_kind Fits
clause_exact = record {
  holds_yes = holds_yes;
  holds_no = holds_no;
  near = near;
  covers_yes = covers_yes;
  covers_no = covers_no;
}

-- ---- combine

-- a point that the two name oppositely is from 1 to 64
pub opposed_range : (s t : LiteralSet) (p : ℕ) → opposed s t p ≡ true → (1 ≤ p) × (p ≤ 64)
opposed_range s t p op = go (or_cases (member s.yes p && member t.no p) (member s.no p && member t.yes p) op)
  where
    go : ((member s.yes p && member t.no p) ≡ true) ⊎ ((member s.no p && member t.yes p) ≡ true) → (1 ≤ p) × (p ≤ 64)
    go (inl h) = let m = (and_parts (member s.yes p) (member t.no p) h).0 in (member_positive s.yes p m, member_small s.yes p m)
    go (inr h) = let m = (and_parts (member s.no p) (member t.yes p) h).0 in (member_positive s.no p m, member_small s.no p m)

-- what the resolvent names: the literals of either, but not those on p
pub rest_member : (s t : PointSet) (p q : ℕ) → 1 ≤ p → p ≤ 64 → member (without (joined s t) (single p)) q ≡ ((member s q || member t q) && not (q == p))
rest_member s t p q low high =
    member-without (joined s t) (single p) q
    ∙ ap₂ (λ (x y : Bool). x && not y) (member-joined s t q) (member-single p q low high)

-- the literal z is in the resolvent r of s and t on p where it is in one of them and not on p
pub record Resolves (s t r : LiteralSet) (p : ℕ) : Type 0 where
  pub keeps : (z : ℤ) → (names s z || names t z) ≡ true → (point_of z ≢ p) → names r z ≡ true
  pub only : (z : ℤ) → names r z ≡ true → ((names s z || names t z) ≡ true) × (point_of z ≢ p)

pub resolves : (s t r : LiteralSet) (p : ℕ) → opposed s t p ≡ true → resolvent s t p ≡ Some r → Resolves s t r p
resolves s t r p op e = record { keeps = keeps; only = only }
  where
    in_range : (1 ≤ p) × (p ≤ 64)
    in_range = opposed_range s t p op

    parts : (r.yes ≡ without (joined s.yes t.yes) (single p)) × (r.no ≡ without (joined s.no t.no) (single p))
    parts = clear_parts (without (joined s.yes t.yes) (single p)) (without (joined s.no t.no) (single p)) r e

    at : (z : ℤ) → names r z ≡ ((names s z || names t z) && not (point_of z == p))
    at (pos q) = ap (λ (u : PointSet). member u q) parts.0 ∙ rest_member s.yes t.yes p q in_range.0 in_range.1
    at (negsuc k) = ap (λ (u : PointSet). member u (suc k)) parts.1 ∙ rest_member s.no t.no p (suc k) in_range.0 in_range.1

    keeps : (z : ℤ) → (names s z || names t z) ≡ true → (point_of z ≢ p) → names r z ≡ true
    keeps z h ne = let rest = at z in grind (arith, nat_tests)

    only : (z : ℤ) → names r z ≡ true → ((names s z || names t z) ≡ true) × (point_of z ≢ p)
    only z h = let rest = at z in (grind (arith, nat_tests), λ same. grind (arith, nat_tests))

-- two true literals on one point are the same
same_sign : (a : ℕ → Bool) (z w : ℤ) → true_in a z ≡ true → true_in a w ≡ true → point_of z ≡ point_of w → z ≡ w
same_sign a (pos p) (pos q) t u e = ap pos e
same_sign a (pos p) (negsuc k) t u e = absurd (grind (arith, nat_tests))
same_sign a (negsuc j) (pos q) t u e = absurd (grind (arith, nat_tests))
same_sign a (negsuc j) (negsuc k) t u e = ap negsuc (omega arith)

-- two clauses that name p oppositely do not both have one literal on p
not_shared : (s t : LiteralSet) (p : ℕ) → opposed s t p ≡ true → (z : ℤ) → point_of z ≡ p → names s z ≡ true → names t z ≢ true
not_shared s t p op (pos q) e hs ht = let left = never_both s p in let right = never_both t p in grind (arith, nat_tests)
not_shared s t p op (negsuc k) e hs ht = let left = never_both s p in let right = never_both t p in grind (arith, nat_tests)

-- where combine gives a clause, it is the resolvent on an opposed point
pub record Combined (s t r : Clause) (p : ℕ) : Type 0 where
  pub oppose : opposed s.literals t.literals p ≡ true
  pub gives : resolvent s.literals t.literals p ≡ Some r.literals

pub combined : (s t r : Clause) (p : ℕ) → clause_core.combine s t p ≡ Some r → Combined s t r p
combined s t r p h = record { oppose = oppose; gives = taken _ (sym (cond-true (opposed s.literals t.literals p) _ None oppose) ∙ h) }
  where
    oppose : opposed s.literals t.literals p ≡ true
    oppose = true_from_ne_false (opposed s.literals t.literals p) (λ e. none-some r (sym (cond-false (opposed s.literals t.literals p) _ None e) ∙ h))

    taken : (o : Option LiteralSet) → option_map clause_of o ≡ Some r → o ≡ Some r.literals
    taken None e = absurd (none-some r e)
    taken (Some u) e = ap (λ (o : Option Clause). option_map (λ (d : Clause). d.literals) o) e

pub combined_resolves : (s t r : Clause) (p : ℕ) → clause_core.combine s t p ≡ Some r → Resolves s.literals t.literals r.literals p
combined_resolves s t r p h = let c = combined s t r p h in resolves s.literals t.literals r.literals p c.oppose c.gives

-- what combine gives on an opposed point
pub combine_opposed : (s t : Clause) (p : ℕ) → opposed s.literals t.literals p ≡ true
    → (o : Option LiteralSet) → o ≡ resolvent s.literals t.literals p → option_map clause_of o ≡ clause_core.combine s t p
combine_opposed s t p op o e =
    ap (option_map clause_of) e ∙ sym (cond-true (opposed s.literals t.literals p) (option_map clause_of (resolvent s.literals t.literals p)) None op)

combine_sound : (s t r : Clause) (p : ℕ) → clause_core.combine s t p ≡ Some r → (a : ℕ → Bool) → Fits s a → Fits t a → Fits r a
combine_sound s t r p h a fs ft = go (cases_eq (point_of fs.0) p) (cases_eq (point_of ft.0) p)
  where
    c : Combined s t r p
    c = combined s t r p h

    v : Resolves s.literals t.literals r.literals p
    v = combined_resolves s t r p h

    go : (point_of fs.0 ≡ p) ⊎ (point_of fs.0 ≢ p) → (point_of ft.0 ≡ p) ⊎ (point_of ft.0 ≢ p) → Fits r a
    go (inr ne) _ = (fs.0, v.keeps fs.0 (or_left (names s.literals fs.0) (names t.literals fs.0) fs.1) ne, fs.2)
    go (inl e) (inr ne) = (ft.0, v.keeps ft.0 (or_right (names s.literals ft.0) (names t.literals ft.0) ft.1) ne, ft.2)
    go (inl e) (inl f) =
        let same : ft.0 ≡ fs.0 = same_sign a ft.0 fs.0 ft.2 fs.2 (f ∙ sym e) in
        absurd (not_shared s.literals t.literals p c.oppose fs.0 e fs.1 (sym (ap (names t.literals) same) ∙ ft.1))

-- a point that a clause names is the point of a literal
pub named_literal : (c : Clause) (p : ℕ) → member (named c.literals) p ≡ true → (z : ℤ) × (point_of z ≡ p) × (names c.literals z ≡ true)
named_literal c p m = go p (or_cases (member c.literals.yes p) (member c.literals.no p) (sym (member-joined c.literals.yes c.literals.no p) ∙ m))
  where
    go : (p : ℕ) → (member c.literals.yes p ≡ true) ⊎ (member c.literals.no p ≡ true) → (z : ℤ) × (point_of z ≡ p) × (names c.literals z ≡ true)
    go p (inl y) = (pos p, refl, y)
    go zero (inr n) = absurd (both_ways (member c.literals.no 0) (zero_none c.literals.no) n)
    go (suc k) (inr n) = (negsuc k, refl, n)

combine_last : (s t r : Clause) (p : ℕ) → clause_core.combine s t p ≡ Some r → greatest (named r.literals) ≤ max (greatest (named s.literals)) (greatest (named t.literals))
combine_last s t r p h = greatest_below (named r.literals) (max (greatest (named s.literals)) (greatest (named t.literals))) bound
  where
    v : Resolves s.literals t.literals r.literals p
    v = combined_resolves s t r p h

    side : (z : ℤ) → (names s.literals z ≡ true) ⊎ (names t.literals z ≡ true) → point_of z ≤ max (greatest (named s.literals)) (greatest (named t.literals))
    side z (inl n) = let l = member-last (named s.literals) (point_of z) (names_point s z n) in omega arith
    side z (inr n) = let l = member-last (named t.literals) (point_of z) (names_point t z n) in omega arith

    bound : (q : ℕ) → member (named r.literals) q ≡ true → q ≤ max (greatest (named s.literals)) (greatest (named t.literals))
    bound q m =
        let l = named_literal r q m in
        let o = or_cases (names s.literals l.0) (names t.literals l.0) (v.only l.0 l.2).0 in
        subst (λ (n : ℕ). n ≤ max (greatest (named s.literals)) (greatest (named t.literals))) l.1 (side l.0 o)

pub clause_sound : Sound clause_core Fits
clause_sound = record {
  number_small = lit< tt;
  impossible_yes = impossible_yes;
  impossible_no = impossible_no;
  combine_sound = combine_sound;
  combine_last = combine_last;
}
