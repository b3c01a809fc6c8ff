-- What is made of signed numbers, by its literals. Assumes nothing.
use Rattle.std.proofs.Common.{◌≡◌, ℕ, zero, suc, ◌+◌, ◌-◌, ◌<◌, ◌≤◌, Bool, true, false, cond, ◌&&◌, ◌||◌, ◌⊎◌, List, [], ◌∷◌, ◌++◌, length, get_or, take, ℤ, pos, negsuc, neg_ℤ, is_err, Some, None, Ok, Err, Option, Result, sym, refl, ap, ◌∙◌, subst, ap₂, inl, inr, arith, take_all, MatchResult}
use Rattle.std.proofs.lemmas.List.{take_more}
use Rattle.std.proofs.Math.Bool.{or-false, or_assoc, and_assoc, and-true}
use Rattle.std.proofs.lemmas.List.Recursion.{and_fails_at, and_push}
use Rattle.std.proofs.lemmas.Bool.{both_ways, cond_both, and_parts, and_from, cases_Bool, cond-true, cond-false, true≢false}
use Rattle.std.proofs.lemmas.Bool.Decides.{nat_tests}
use Rattle.std.specs.Option.{ok_or}
use Rattle.points.specs.Sets.{member, none, single, joined, common, is_empty}
use Rattle.points.specs.declared.set.PointSet.{PointSet}
use Rattle.points.proofs.Members.{member-none, member-single, member-joined, member-common, zero_none, same_members}
use Rattle.points.proofs.Sizes.{some_member}
use Rattle.statements.specs.Literals.{names, signed, same_number, listed, clear, bare}
use Rattle.statements.specs.Making.{is_literal, are_literals, asserted, denied, all_asserted, all_denied, made, extended, make_refusal}
use Rattle.statements.specs.declared.fault.MakeFault.{MakeFault}
use Rattle.statements.specs.declared.fault.MakeFault.TheVariants.{Magnitude, Opposed}
use Rattle.points.specs.declared.point.Point.{Point}
use Rattle.statements.specs.declared.literals.Literal.{Literal}
use Rattle.statements.specs.declared.literals.Literal.TheVariants.{Positive, Negative}
use Rattle.statements.specs.declared.literals.LiteralSet.{LiteralSet}
use Rattle.statements.specs.LiteralLaws.{never_both, clear_none, clear_some, clear_parts}

-- ---- joining sets

pub joined-none : (s : PointSet) → joined s none ≡ s
joined-none s = same_members (joined s none) s (λ p. simp (member-joined, member-none, or-false))

none_joined : (s : PointSet) → joined none s ≡ s
none_joined s = same_members (joined none s) s (λ p. simp (member-joined, member-none))

joined_assoc : (s t u : PointSet) → joined (joined s t) u ≡ joined s (joined t u)
joined_assoc s t u = same_members (joined (joined s t) u) (joined s (joined t u)) (λ p. simp (member-joined, or_assoc))

-- ---- one number more

pub asserted_push : (zs : List ℤ) (z : ℤ) → all_asserted (zs ++ z ∷ []) ≡ joined (all_asserted zs) (asserted z)
unfolding all_asserted
asserted_push [] z = joined-none (asserted z) ∙ sym (none_joined (asserted z))
asserted_push (x ∷ zs) z = ap (joined (asserted x)) (asserted_push zs z) ∙ sym (joined_assoc (asserted x) (all_asserted zs) (asserted z))

pub denied_push : (zs : List ℤ) (z : ℤ) → all_denied (zs ++ z ∷ []) ≡ joined (all_denied zs) (denied z)
unfolding all_denied
denied_push [] z = joined-none (denied z) ∙ sym (none_joined (denied z))
denied_push (x ∷ zs) z = ap (joined (denied x)) (denied_push zs z) ∙ sym (joined_assoc (denied x) (all_denied zs) (denied z))

pub literals_append : (xs ys : List ℤ) → are_literals (xs ++ ys) ≡ (are_literals xs && are_literals ys)
unfolding are_literals
literals_append [] ys = refl
literals_append (x ∷ xs) ys = ap (λ (t : Bool). is_literal x && t) (literals_append xs ys) ∙ sym (and_assoc (is_literal x) (are_literals xs) (are_literals ys))

-- ---- the points of numbers that stand for literals

pub member-asserted : (z : ℤ) → is_literal z ≡ true → (p : ℕ) → member (asserted z) p ≡ same_number (pos p) z
member-asserted (pos q) h p = let m = member-single q p in grind (arith, nat_tests)
member-asserted (negsuc k) h p = member-none p

pub member-denied : (z : ℤ) → is_literal z ≡ true → (k : ℕ) → member (denied z) (suc k) ≡ same_number (negsuc k) z
member-denied (pos q) h k = member-none (suc k)
member-denied (negsuc j) h k = let m = member-single (suc j) (suc k) in grind (arith, nat_tests)

all_asserted_lem : (zs : List ℤ) → are_literals zs ≡ true → (p : ℕ) → member (all_asserted zs) p ≡ listed zs (pos p)
unfolding are_literals all_asserted listed
all_asserted_lem [] h p = member-none p
all_asserted_lem (z ∷ zs) h p =
    let b = and_parts (is_literal z) (are_literals zs) h in
    member-joined (asserted z) (all_asserted zs) p ∙ ap₂ (λ (x y : Bool). x || y) (member-asserted z b.0 p) (all_asserted_lem zs b.1 p)

all_denied_lem : (zs : List ℤ) → are_literals zs ≡ true → (k : ℕ) → member (all_denied zs) (suc k) ≡ listed zs (negsuc k)
unfolding are_literals all_denied listed
all_denied_lem [] h k = member-none (suc k)
all_denied_lem (z ∷ zs) h k =
    let b = and_parts (is_literal z) (are_literals zs) h in
    member-joined (denied z) (all_denied zs) (suc k) ∙ ap₂ (λ (x y : Bool). x || y) (member-denied z b.0 k) (all_denied_lem zs b.1 k)

-- ---- a set of literals, or a point on both sides

pub data Cleared (y n : PointSet) : Option LiteralSet → Type 0 where
  made_of : (s : LiteralSet) → s.yes ≡ y → s.no ≡ n → Cleared y n (Some s)
  both : (k : ℕ) → member y (suc k) ≡ true → member n (suc k) ≡ true → Cleared y n None

positive : (y n : PointSet) (p : ℕ) → member y p ≡ true → member n p ≡ true → Cleared y n None
positive y n zero hy hn = absurd (both_ways (member y 0) (zero_none y) hy)
positive y n (suc k) hy hn = both k hy hn

pub cleared : (y n : PointSet) → Cleared y n (clear y n)
cleared y n = go (cases_Bool (is_empty (common y n)))
  where
    go : (is_empty (common y n) ≡ true) ⊎ (is_empty (common y n) ≡ false) → Cleared y n (clear y n)
    go (inl e) =
        let s : LiteralSet = record { yes = y; no = n; apart = e } in
        subst (Cleared y n) (sym (clear_some s)) (made_of s refl refl)
    go (inr e) =
        let m = some_member (common y n) e in
        let b = and_parts (member y m.0) (member n m.0) (sym (member-common y n m.0) ∙ m.1) in
        subst (Cleared y n) (sym (clear_none y n e)) (positive y n m.0 b.0 b.1)

-- ---- what is made of numbers has just their literals

abbrev pub Made : List ℤ → Result LiteralSet MakeFault → Type 0
Made zs r = MatchResult r (λ s. (z : ℤ) → names s z ≡ listed zs z) (λ e. (make_refusal e).1 zs)

made_from : (zs : List ℤ) → are_literals zs ≡ true → {o : Option LiteralSet} → Cleared (all_asserted zs) (all_denied zs) o → Made zs (ok_or o Opposed)
made_from zs h (made_of s e f) = at
  where
    at : (z : ℤ) → names s z ≡ listed zs z
    at (pos p) = ap (λ (t : PointSet). member t p) e ∙ all_asserted_lem zs h p
    at (negsuc k) = ap (λ (t : PointSet). member t (suc k)) f ∙ all_denied_lem zs h k
made_from zs h (both k y n) = (h, (k, sym (all_asserted_lem zs h (suc k)) ∙ y, sym (all_denied_lem zs h k) ∙ n))

pub made_law : (zs : List ℤ) → Made zs (made zs)
unfolding made
made_law zs =
    cond_both (are_literals zs) (ok_or (clear (all_asserted zs) (all_denied zs)) Opposed) (Err Magnitude) (Made zs)
    (λ h. made_from zs h (cleared (all_asserted zs) (all_denied zs))) (λ h. h)

-- ---- one literal more

abbrev pub Extended : LiteralSet → ℤ → Result LiteralSet MakeFault → Type 0
Extended s z r = MatchResult r (λ t. (w : ℤ) → names t w ≡ (names s w || same_number w z)) (λ e. (e ≡ Opposed) × (names s (neg_ℤ z) ≡ true))

-- a point on both sides after the literal z comes in is that of z, and its denial was there
was_there : (s : LiteralSet) (z : ℤ) → is_literal z ≡ true → (k : ℕ)
    → (names s (pos (suc k)) || same_number (pos (suc k)) z) ≡ true → (names s (negsuc k) || same_number (negsuc k) z) ≡ true → names s (neg_ℤ z) ≡ true
was_there s (pos zero) h k y n = absurd (true≢false (sym h))
was_there s (pos (suc j)) h k y n = let never = never_both s (suc k) in grind (arith, nat_tests)
was_there s (negsuc j) h k y n = let never = never_both s (suc k) in grind (arith, nat_tests)

module _ (s : LiteralSet) (z : ℤ) (h : is_literal z ≡ true) where
  more_yes : (p : ℕ) → member (joined s.yes (asserted z)) p ≡ (names s (pos p) || same_number (pos p) z)
  more_yes p = member-joined s.yes (asserted z) p ∙ ap (λ (t : Bool). member s.yes p || t) (member-asserted z h p)

  more_no : (k : ℕ) → member (joined s.no (denied z)) (suc k) ≡ (names s (negsuc k) || same_number (negsuc k) z)
  more_no k = member-joined s.no (denied z) (suc k) ∙ ap (λ (t : Bool). member s.no (suc k) || t) (member-denied z h k)

  extended_from : {o : Option LiteralSet} → Cleared (joined s.yes (asserted z)) (joined s.no (denied z)) o → Extended s z (ok_or o Opposed)
  extended_from (made_of t e f) = at
    where
      at : (w : ℤ) → names t w ≡ (names s w || same_number w z)
      at (pos p) = ap (λ (u : PointSet). member u p) e ∙ more_yes p
      at (negsuc k) = ap (λ (u : PointSet). member u (suc k)) f ∙ more_no k
  extended_from (both k y n) = (refl, was_there s z h k (sym (more_yes (suc k)) ∙ y) (sym (more_no k) ∙ n))

  pub extended_law : Extended s z (extended s z)
  unfolding extended
  extended_law =
      extended_from (cleared (joined s.yes (asserted z)) (joined s.no (denied z)))

-- ---- literals of the program

pub literal_number : (l : Literal) → is_literal (signed l) ≡ true
literal_number (Positive p) = let low = p.positive in let high = p.small in grind (arith, nat_tests)
literal_number (Negative p) = let low = p.positive in let high = p.small in grind (arith, nat_tests)

pub denied_more : (s : PointSet) (p : Point) → joined s (single p.number) ≡ joined s (denied (signed (Negative p)))
denied_more s p =
    let same : p.number ≡ suc (p.number - 1) = omega (arith, p.positive) in
    ap (λ (n : ℕ). joined s (single n)) same

pub extended_positive : (s : LiteralSet) (p : Point) → ok_or (clear (joined s.yes (single p.number)) s.no) Opposed ≡ extended s (signed (Positive p))
unfolding extended
extended_positive s p = ap (λ (n : PointSet). ok_or (clear (joined s.yes (single p.number)) n) Opposed) (sym (joined-none s.no))

pub extended_negative : (s : LiteralSet) (p : Point) → ok_or (clear s.yes (joined s.no (single p.number))) Opposed ≡ extended s (signed (Negative p))
unfolding extended
extended_negative s p =
    ap₂ (λ (y n : PointSet). ok_or (clear y n) Opposed) (sym (joined-none s.yes)) (denied_more s.no p)

-- ---- a loop over the numbers

-- one number is refused for its magnitude alone
pub refused_alone : (e : MakeFault) (z : ℤ) → (make_refusal e).1 (z ∷ []) → (e ≡ Magnitude) × (is_literal z ≡ false)
unfolding are_literals listed
refused_alone Magnitude z h = (refl, sym (and-true (is_literal z)) ∙ h)
refused_alone Opposed (pos q) (h, (p, y, n)) = absurd (true≢false (sym n))
refused_alone Opposed (negsuc k) (h, (p, y, n)) = absurd (true≢false (sym y))

pub not_literals : (zs : List ℤ) (i : ℕ) → i < length zs → is_literal (get_or zs i (pos 0)) ≡ false → are_literals zs ≡ false
unfolding are_literals
not_literals zs i l h = and_fails_at are_literals is_literal refl (λ _ _. refl) zs i (pos 0) l h

-- what the loop has after i numbers
pub record Sorted (zs : List ℤ) (i : ℕ) (y n : PointSet) : Type 0 where
  pub literals : are_literals (take i zs) ≡ true
  pub yes_is : y ≡ all_asserted (take i zs)
  pub no_is : n ≡ all_denied (take i zs)

pub sorted_more : (zs : List ℤ) (i : ℕ) (y n y' n' : PointSet) (z : ℤ) → i < length zs → get_or zs i (pos 0) ≡ z → is_literal z ≡ true
    → Sorted zs i y n → y' ≡ joined y (asserted z) → n' ≡ joined n (denied z) → Sorted zs (i + 1) y' n'
unfolding are_literals
sorted_more zs i y n y' n' z l at lit s e f =
    let more : take (i + 1) zs ≡ take i zs ++ z ∷ [] = take_more zs i (pos 0) l ∙ ap (λ (x : ℤ). take i zs ++ x ∷ []) at in
    record {
      literals =
          ap are_literals more
          ∙ and_push are_literals is_literal refl (λ _ _. refl) (take i zs) z
          ∙ and_from (are_literals (take i zs)) (is_literal z) s.literals lit;
      yes_is = e ∙ ap (λ (t : PointSet). joined t (asserted z)) s.yes_is ∙ sym (ap all_asserted more ∙ asserted_push (take i zs) z);
      no_is = f ∙ ap (λ (t : PointSet). joined t (denied z)) s.no_is ∙ sym (ap all_denied more ∙ denied_push (take i zs) z);
    }

pub sorted_all : (zs : List ℤ) (i : ℕ) (y n : PointSet) → length zs ≤ i → Sorted zs i y n
    → ◌≡◌ {A = Result (PointSet × PointSet) MakeFault} (Ok (y, n)) (cond (are_literals zs) (Ok (all_asserted zs, all_denied zs)) (Err Magnitude))
sorted_all zs i y n l s =
    let whole = take_all i zs l in
    let both : PointSet → PointSet → Result (PointSet × PointSet) MakeFault = λ a b. Ok (a, b) in
    ap₂ both (s.yes_is ∙ ap all_asserted whole) (s.no_is ∙ ap all_denied whole)
    ∙ sym (cond-true (are_literals zs) (both (all_asserted zs) (all_denied zs)) (Err Magnitude) (sym (ap are_literals whole) ∙ s.literals))

-- ---- from the sorted numbers to what is made

abbrev pub sorted_of : List ℤ → Result (PointSet × PointSet) MakeFault
sorted_of zs = cond (are_literals zs) (Ok (all_asserted zs, all_denied zs)) (Err Magnitude)

-- what becomes of them
then_clear : Result (PointSet × PointSet) MakeFault → Result LiteralSet MakeFault
then_clear (Ok s) = ok_or (clear s.0 s.1) Opposed
then_clear (Err e) = Err e

then_made : (zs : List ℤ) → then_clear (sorted_of zs) ≡ made zs
unfolding made then_clear
then_made zs = go (are_literals zs)
  where
    go : (b : Bool) → then_clear (cond b (Ok (all_asserted zs, all_denied zs)) (Err Magnitude)) ≡ cond b (ok_or (clear (all_asserted zs) (all_denied zs)) Opposed) (Err Magnitude)
    go true = refl
    go false = refl

pub made_sorted : (zs : List ℤ) (y n : PointSet) (r : Result (PointSet × PointSet) MakeFault) → r ≡ Ok (y, n) → r ≡ sorted_of zs → ok_or (clear y n) Opposed ≡ made zs
unfolding then_clear
made_sorted zs y n r e f = ap then_clear (sym e ∙ f) ∙ then_made zs

pub made_refused : (zs : List ℤ) (e : MakeFault) (r : Result (PointSet × PointSet) MakeFault) → r ≡ Err e → r ≡ sorted_of zs → Err e ≡ made zs
unfolding then_clear
made_refused zs e r g f = ap then_clear (sym g ∙ f) ∙ then_made zs

-- ---- one number more at a time

ok_or_some : {X E : Type 0} (o : Option X) (e : E) (x : X) → ok_or o e ≡ Ok x → o ≡ Some x
ok_or_some None e x h = cc
ok_or_some (Some y) e x h = cc

pub record MadeOf (zs : List ℤ) (s : LiteralSet) : Type 0 where
  pub are : are_literals zs ≡ true
  pub yes_is : s.yes ≡ all_asserted zs
  pub no_is : s.no ≡ all_denied zs

-- the points of a set that is made
pub made_of_numbers : (zs : List ℤ) (s : LiteralSet) → made zs ≡ Ok s → MadeOf zs s
unfolding made
made_of_numbers zs s h = go (cases_Bool (are_literals zs))
  where
    go : (are_literals zs ≡ true) ⊎ (are_literals zs ≡ false) → MadeOf zs s
    go (inl t) =
        let parts = clear_parts (all_asserted zs) (all_denied zs) s
        (ok_or_some (clear (all_asserted zs) (all_denied zs)) Opposed s
        (sym (cond-true (are_literals zs) (ok_or (clear (all_asserted zs) (all_denied zs)) Opposed) (Err Magnitude) t) ∙ h)) in
        record { are = t; yes_is = parts.0; no_is = parts.1 }
    go (inr f) =
        absurd (true≢false (ap is_err (sym (cond-false (are_literals zs) (ok_or (clear (all_asserted zs) (all_denied zs)) Opposed) (Err Magnitude) f) ∙ h)))

-- of no number the set of no literal is made
pub made_none : made [] ≡ Ok bare
unfolding made are_literals all_asserted all_denied bare
made_none = ap (λ (o : Option LiteralSet). ok_or o Opposed) (clear_some bare)

-- the last number comes to what is made of the others
pub made_push : (zs : List ℤ) (z : ℤ) (s : LiteralSet) → made zs ≡ Ok s → is_literal z ≡ true → made (zs ++ z ∷ []) ≡ extended s z
unfolding made extended are_literals
made_push zs z s h lit =
    let m = made_of_numbers zs s h in
    let all : are_literals (zs ++ z ∷ []) ≡ true = and_push are_literals is_literal refl (λ _ _. refl) zs z ∙ and_from (are_literals zs) (is_literal z) m.are lit in
    cond-true (are_literals (zs ++ z ∷ [])) (ok_or (clear (all_asserted (zs ++ z ∷ [])) (all_denied (zs ++ z ∷ []))) Opposed) (Err Magnitude) all
    ∙ ap₂ (λ (y n : PointSet). ok_or (clear y n) Opposed)
    (asserted_push zs z ∙ ap (λ (t : PointSet). joined t (asserted z)) (sym m.yes_is))
    (denied_push zs z ∙ ap (λ (t : PointSet). joined t (denied z)) (sym m.no_is))

-- ---- what the functions `make`, `with` and `sorted` are proved by

pub made_as : (zs : List ℤ) (r : Result LiteralSet MakeFault) → r ≡ made zs → Made zs r
made_as zs r e = subst (Made zs) (sym e) (made_law zs)

pub extended_as : (s : LiteralSet) (l : Literal) (r : Result LiteralSet MakeFault) → r ≡ extended s (signed l) → Extended s (signed l) r
extended_as s l r e = subst (Extended s (signed l)) (sym e) (extended_law s (signed l) (literal_number l))

pub ruleset makes = (made_sorted, made_refused, made_as)

pub ruleset extends = (extended_positive, extended_negative, extended_as)

pub ruleset sorting = (refused_alone, not_literals)
