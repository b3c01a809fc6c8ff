-- The line of a clause writes its literals by point, and the clause is made of them. Assumes nothing.
use Rattle.std.proofs.Common.{◌≡◌, ℕ, zero, suc, ◌≤◌, Bool, true, false, cond, ◌&&◌, ◌||◌, eqb, leb, List, [], ◌∷◌, ◌++◌, ℤ, pos, negsuc, nat_abs, Ok, Err, Result, sym, refl, ap, ◌∙◌, subst, ap₂, append_assoc, arith}
use mathlib.Core.Bool.{or-false, and-true, and-false}
use Rattle.std.proofs.lemmas.Bool.{and_from, and_left, le-leb, lt-leb, both_ways}
use Rattle.std.proofs.lemmas.Bool.Decides.{nat_tests}
use Rattle.lexer.specs.Numerals.{numeral_of, number_of}
use Rattle.points.specs.Sets.{member, greatest}
use Rattle.points.proofs.Members.{zero_none, same_members}
use Rattle.points.proofs.Sizes.{top, member-last}
use Rattle.statements.specs.Literals.{named, names, listed}
use Rattle.statements.specs.Making.{is_literal, are_literals, made}
use Rattle.statements.specs.declared.clause.Clause.{Clause}
use Rattle.statements.specs.declared.fault.MakeFault.{MakeFault}
use Rattle.statements.specs.declared.fault.MakeFault.TheVariants.{Magnitude, Opposed}
use Rattle.statements.specs.declared.literals.LiteralSet.{LiteralSet}
use Rattle.statements.specs.ClauseLaws.{names_point}
use Rattle.statements.specs.LiteralLaws.{never_both, same_literals}
use Rattle.statements.proofs.MakeLaws.{Made, made_law, literals_append}
use Rattle.dimacs.specs.Denoting.{Spells, nothing, clause}
use Rattle.dimacs.specs.Plain.{decimal_of, literal_text, literals_text, clause_lines}
use Rattle.dimacs.proofs.AcceptLaws.{listed-append}
use Rattle.dimacs.proofs.PlainNumbers.{decimal_some, decimal_solid, decimal_number, minus_number}
use Rattle.dimacs.proofs.PlainWords.{Writes, writes_none, writes_more}

-- the literal on the point k + 1: the point where y is true, else its denial where n is true
abbrev chosen : ℕ → Bool → Bool → List ℤ
chosen k y n = cond y (pos (suc k) ∷ []) (cond n (negsuc k ∷ []) [])

-- the clause's own literal on the point k + 1, if there is one
abbrev literal_at : Clause → ℕ → List ℤ
literal_at c k = chosen k (member c.literals.yes (suc k)) (member c.literals.no (suc k))

-- the literals on the points 1 to n, by point
literals_of : Clause → ℕ → List ℤ
literals_of c zero = []
literals_of c (suc k) = literals_of c k ++ literal_at c k

-- ---- what is written

writes_literal : (k : ℕ) (y n : Bool) (rest : List ℕ) (zs : List ℤ) → suc k ≤ 99999 → Writes rest zs
    → Writes (cond y (decimal_of (suc k) ++ 32 ∷ []) (cond n (45 ∷ (decimal_of (suc k) ++ 32 ∷ [])) []) ++ rest) (chosen k y n ++ zs)
writes_literal k true n rest zs h more =
    let ds = decimal_of (suc k) in
    subst (λ bs. Writes bs (pos (suc k) ∷ zs)) (sym (append_assoc ds (32 ∷ []) rest))
    (writes_more ds 32 rest (pos (suc k)) zs (decimal_some (suc k) h) (decimal_solid (suc k) h) refl (decimal_number (suc k) h) more)
writes_literal k false true rest zs h more =
    let ds = decimal_of (suc k) in
    subst (λ bs. Writes (45 ∷ bs) (negsuc k ∷ zs)) (sym (append_assoc ds (32 ∷ []) rest))
    (writes_more (45 ∷ ds) 32 rest (negsuc k) zs (omega arith) (refl, decimal_solid (suc k) h) refl (minus_number k h) more)
writes_literal k false false rest zs h more = more

writes_literals : (c : Clause) (n : ℕ) (rest : List ℕ) (zs : List ℤ) → n ≤ 99999 → Writes rest zs → Writes (literals_text c n ++ rest) (literals_of c n ++ zs)
unfolding literals_text literals_of
writes_literals c zero rest zs h more = more
writes_literals c (suc k) rest zs h more =
    let here = writes_literal k (member c.literals.yes (suc k)) (member c.literals.no (suc k)) rest zs h more in
    let all = writes_literals c k (literal_text c (suc k) ++ rest) (literal_at c k ++ zs) (omega arith) here in
    simp append_assoc all

writes_zero : (rest : List ℕ) (zs : List ℤ) → Writes rest zs → Writes (48 ∷ 10 ∷ rest) (pos 0 ∷ zs)
unfolding number_of numeral_of
writes_zero rest zs more = writes_more (48 ∷ []) 10 rest (pos 0) zs (omega arith) (refl, tt) refl refl more

-- ---- all numbers are literals

small_point : (k : ℕ) → suc k ≤ 64 → (leb 1 (suc k) && leb (suc k) 64) ≡ true
small_point k h = grind (arith, nat_tests)

each_literal : (k : ℕ) (y n : Bool) → suc k ≤ 64 → are_literals (chosen k y n) ≡ true
unfolding are_literals
each_literal k true n h = and_from (is_literal (pos (suc k))) true (small_point k h) refl
each_literal k false true h = and_from (is_literal (negsuc k)) true (small_point k h) refl
each_literal k false false h = refl

all_literals : (c : Clause) (n : ℕ) → n ≤ 64 → are_literals (literals_of c n) ≡ true
unfolding literals_of are_literals
all_literals c zero h = refl
all_literals c (suc k) h =
    literals_append (literals_of c k) (literal_at c k)
    ∙ and_from _ _ (all_literals c k (omega arith)) (each_literal k (member c.literals.yes (suc k)) (member c.literals.no (suc k)) h)

-- ---- what is listed

module _ (k : ℕ) where
  yes_listed : (p : ℕ) (y n : Bool) → listed (chosen k y n) (pos p) ≡ (eqb p (suc k) && y)
  unfolding listed
  yes_listed p true n = or-false (eqb p (suc k)) ∙ sym (and-true (eqb p (suc k)))
  yes_listed p false true = sym (and-false (eqb p (suc k)))
  yes_listed p false false = sym (and-false (eqb p (suc k)))

  no_listed : (j : ℕ) (y n : Bool) → (y ≡ true → n ≡ true → ⊥) → listed (chosen k y n) (negsuc j) ≡ (eqb (suc j) (suc k) && n)
  unfolding listed
  no_listed j true true never = absurd (never refl refl)
  no_listed j true false never = sym (and-false (eqb (suc j) (suc k)))
  no_listed j false true never = grind (arith, nat_tests)
  no_listed j false false never = sym (and-false (eqb (suc j) (suc k)))

there : (p q : ℕ) (s t : Bool) → (p ≡ q → s ≡ t) → (eqb p q && s) ≡ (eqb p q && t)
there p q s t h = grind (arith, nat_tests)

-- what is listed is in the clause: of one point, of the points up to n, and of all
one_listed : (c : Clause) (k : ℕ) (z : ℤ) → listed (literal_at c k) z ≡ (eqb (nat_abs z) (suc k) && names c.literals z)
one_listed c k (pos p) =
    let y = member c.literals.yes in
    yes_listed k p (y (suc k)) (member c.literals.no (suc k)) ∙ there p (suc k) (y (suc k)) (y p) (λ e. ap y (sym e))
one_listed c k (negsuc j) =
    let n = member c.literals.no in
    no_listed k j (member c.literals.yes (suc k)) (n (suc k)) (never_both c.literals (suc k)) ∙ there (suc j) (suc k) (n (suc k)) (n (suc j)) (λ e. ap n (sym e))

listed_below : (c : Clause) (n : ℕ) (z : ℤ) → listed (literals_of c n) z ≡ (leb (nat_abs z) n && names c.literals z)
unfolding literals_of listed
listed_below c zero (pos zero) = sym (zero_none c.literals.yes)
listed_below c zero (pos (suc p)) = sym (and_left (leb (suc p) 0) (names c.literals (pos (suc p))) (lt-leb (suc p) 0 (omega arith)))
listed_below c zero (negsuc k) = sym (and_left (leb (suc k) 0) (names c.literals (negsuc k)) (lt-leb (suc k) 0 (omega arith)))
listed_below c (suc k) z =
    listed-append (literals_of c k) (literal_at c k) z
    ∙ ap₂ (λ (s t : Bool). s || t) (listed_below c k z) (one_listed c k z)
    ∙ both (nat_abs z) (names c.literals z)
  where
    both : (m : ℕ) (t : Bool) → (leb m k && t || eqb m (suc k) && t) ≡ (leb m (suc k) && t)
    both m true = grind (arith, nat_tests)
    both m false = grind (arith, nat_tests)

-- ---- what is made of the numbers

module _ (c : Clause) where
  -- the numbers on the line of the clause, before its 0
  abbrev own_numbers : List ℤ
  own_numbers = literals_of c (greatest (named c.literals))

  own_listed : (z : ℤ) → listed own_numbers z ≡ names c.literals z
  own_listed z = listed_below c (greatest (named c.literals)) z ∙ inside (leb (nat_abs z) (greatest (named c.literals))) (names c.literals z) (λ h. le-leb (nat_abs z) (greatest (named c.literals)) (bound z h))
    where
      inside : (s t : Bool) → (t ≡ true → s ≡ true) → (s && t) ≡ t
      inside s true h = and-true s ∙ h refl
      inside s false h = and-false s

      bound : (z : ℤ) → names c.literals z ≡ true → nat_abs z ≤ greatest (named c.literals)
      bound (pos p) h = member-last (named c.literals) p (names_point c (pos p) h)
      bound (negsuc k) h = member-last (named c.literals) (suc k) (names_point c (negsuc k) h)

  -- so the clause is made of its numbers
  own_made : made own_numbers ≡ Ok c.literals
  own_made = go (made own_numbers) (made_law own_numbers)
    where
      go : (r : Result LiteralSet MakeFault) → Made own_numbers r → r ≡ Ok c.literals
      go (Ok s) law =
          ap Ok (same_literals s c.literals
          (same_members s.yes c.literals.yes (λ p. law (pos p) ∙ own_listed (pos p)))
          (same_members s.no c.literals.no denials))
        where
          denials : (p : ℕ) → member s.no p ≡ member c.literals.no p
          denials zero = zero_none s.no ∙ sym (zero_none c.literals.no)
          denials (suc k) = law (negsuc k) ∙ own_listed (negsuc k)
      go (Err Magnitude) law = absurd (both_ways (are_literals own_numbers) law (all_literals c (greatest (named c.literals)) (top (named c.literals)).small))
      go (Err Opposed) (lit, (p, y, n)) = absurd (never_both c.literals (suc p) (sym (own_listed (pos (suc p))) ∙ y) (sym (own_listed (negsuc p)) ∙ n))

-- ---- the lines of the clauses

-- the numbers of all lines
pub line_numbers : List Clause → List ℤ
line_numbers [] = []
line_numbers (c ∷ cs) = own_numbers c ++ pos 0 ∷ line_numbers cs

pub lines_spell : (cs : List Clause) → Spells (line_numbers cs) cs
unfolding line_numbers
lines_spell [] = nothing
lines_spell (c ∷ cs) = clause (own_numbers c) c (line_numbers cs) cs (own_made c) (lines_spell cs)

pub lines_write : (cs : List Clause) → Writes (clause_lines cs) (line_numbers cs)
unfolding clause_lines line_numbers
lines_write [] = writes_none
lines_write (c ∷ cs) =
    let n = greatest (named c.literals) in
    let few : n ≤ 99999 = omega (arith, (top (named c.literals)).small) in
    subst (λ bs. Writes bs (own_numbers c ++ pos 0 ∷ line_numbers cs)) (sym (append_assoc (literals_text c n) (48 ∷ 10 ∷ []) (clause_lines cs)))
    (writes_literals c n (48 ∷ 10 ∷ clause_lines cs) (pos 0 ∷ line_numbers cs) few (writes_zero (clause_lines cs) (line_numbers cs) (lines_write cs)))
