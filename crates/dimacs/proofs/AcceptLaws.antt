-- A text that denotes clauses within the limits is accepted, with these clauses. Assumes nothing.
use Rattle.std.proofs.Common.{◌≡◌, ℕ, zero, suc, ◌+◌, ◌<◌, ◌≤◌, Bool, true, ◌||◌, leb, List, [], ◌∷◌, ◌++◌, length, take, ℤ, pos, negsuc, neg_ℤ, nat_abs, Some, None, Ok, Err, Option, Result, sym, refl, ap, ◌∙◌, subst, ap₂, append_assoc, append-nil, arith, length-append}
use mathlib.Core.Bool.{or_assoc}
use Rattle.std.proofs.lemmas.List.{take_at}
use Rattle.std.proofs.lemmas.Bool.{cond-true, and_from, and_parts, or_left, or_right, le-leb, lt-ltb, eq-eqb, true≢false}
use Rattle.cases.specs.Refusals.{usable}
use Rattle.cases.specs.declared.open.OpenCase.{OpenCase}
use Rattle.lexer.specs.Numerals.{number_of}
use Rattle.lexer.specs.Text.{Piece, tokens}
use Rattle.points.specs.Sets.{greatest}
use Rattle.points.proofs.Sizes.{member-last}
use Rattle.statements.specs.Clauses.{clause_of}
use Rattle.statements.specs.Literals.{named, bare, names, same_number, listed, point_of}
use Rattle.statements.specs.Making.{is_literal, are_literals, made, extended}
use Rattle.statements.specs.declared.clause.Clause.{Clause}
use Rattle.statements.specs.declared.fault.MakeFault.{MakeFault}
use Rattle.statements.specs.declared.literals.LiteralSet.{LiteralSet}
use Rattle.statements.specs.ClauseLaws.{names_point}
use Rattle.statements.specs.LiteralLaws.{never_both}
use Rattle.statements.proofs.MakeLaws.{Made, Extended, made_law, extended_law, made_none, made_push, made_of_numbers, literals_append}
use Rattle.dimacs.specs.Denoting.{and_then, numbers_of, Spells, nothing, clause, OnPoints, Case, Judged}
use Rattle.dimacs.specs.Reading.{Progress, accepted, go_on, with_pending, body, from_line, from_header, reading, over}
use Rattle.dimacs.specs.Steps.{Answers}
use Rattle.dimacs.specs.declared.fault.Fault.{Fault}
use Rattle.dimacs.proofs.DenoteLaws.{accepted_case}
use Rattle.dimacs.proofs.StepLaws.{added, point_size, token_end, token_literal}

-- ---- the numbers of a group

-- the made set has each number that is listed
made_names : (zs : List ℤ) (s : LiteralSet) → made zs ≡ Ok s → (z : ℤ) → names s z ≡ listed zs z
made_names zs s h = subst (Made zs) h (made_law zs)

pub listed-append : (xs ys : List ℤ) (z : ℤ) → listed (xs ++ ys) z ≡ (listed xs z || listed ys z)
unfolding listed
listed-append [] ys z = refl
listed-append (x ∷ xs) ys z = ap (λ (t : Bool). same_number z x || t) (listed-append xs ys z) ∙ sym (or_assoc (same_number z x) (listed xs z) (listed ys z))

same_self : (z : ℤ) → same_number z z ≡ true
same_self (pos n) = eq-eqb n n refl
same_self (negsuc n) = eq-eqb n n refl

-- no set has a literal and its denial
not_both : (s : LiteralSet) (z : ℤ) → is_literal z ≡ true → names s z ≡ true → names s (neg_ℤ z) ≡ true → ⊥
not_both s (pos zero) lit a b = true≢false (sym lit)
not_both s (pos (suc k)) lit a b = never_both s (suc k) a b
not_both s (negsuc k) lit a b = never_both s (suc k) b a

-- a number inside a group from which a set is made comes to what is made of those before it
module _ (xs : List ℤ) (y : ℤ) (ys : List ℤ) (s target : LiteralSet) (before : made xs ≡ Ok s) (all : made (xs ++ y ∷ ys) ≡ Ok target) where
  inner_literal : is_literal y ≡ true
  unfolding are_literals
  inner_literal =
      (and_parts (is_literal y) (are_literals ys)
      (and_parts (are_literals xs) (are_literals (y ∷ ys)) (sym (literals_append xs (y ∷ ys)) ∙ (made_of_numbers (xs ++ y ∷ ys) target all).are)).1).0

  inner_named : names target y ≡ true
  unfolding listed
  inner_named =
      made_names (xs ++ y ∷ ys) target all y
      ∙ listed-append xs (y ∷ ys) y
      ∙ or_right (listed xs y) (listed (y ∷ ys) y) (or_left (same_number y y) (listed ys y) (same_self y))

  inner_known : (n : ℕ) → greatest (named target) ≤ n → nat_abs y ≤ n
  inner_known n h = omega (arith, h, member-last (named target) (point_of y) (names_point (clause_of target) y inner_named), point_size y)

  inner_extended : (t : LiteralSet) × (extended s y ≡ Ok t)
  inner_extended = go (extended s y) refl
    where
      denied : names s (neg_ℤ y) ≡ true → ⊥
      denied h =
          not_both target y inner_literal inner_named
          (made_names (xs ++ y ∷ ys) target all (neg_ℤ y)
          ∙ listed-append xs (y ∷ ys) (neg_ℤ y)
          ∙ or_left (listed xs (neg_ℤ y)) (listed (y ∷ ys) (neg_ℤ y)) (sym (made_names xs s before (neg_ℤ y)) ∙ h))

      go : (r : Result LiteralSet MakeFault) → extended s y ≡ r → (t : LiteralSet) × (extended s y ≡ Ok t)
      go (Ok t) e = (t, e)
      go (Err e) f = absurd (denied (subst (Extended s y) f (extended_law s y inner_literal)).1)

-- ---- the numbers of tokens

and_then_lem : (o : Option ℤ) (p : Option (List ℤ)) (z : ℤ) (zs : List ℤ) → and_then o p ≡ Some (z ∷ zs) → (o ≡ Some z) × (p ≡ Some zs)
and_then_lem None p z zs h = cc
and_then_lem (Some x) None z zs h = cc
and_then_lem (Some x) (Some xs) z zs h = (cc, cc)

no_tokens : (ts : List Piece) → numbers_of ts ≡ Some [] → ts ≡ []
unfolding numbers_of
no_tokens [] h = refl
no_tokens (t ∷ ts) h = absurd (never (number_of t.1) (numbers_of ts) h)
  where
    never : (o : Option ℤ) (p : Option (List ℤ)) → and_then o p ≡ Some [] → ⊥
    never None p e = cc
    never (Some x) None e = cc
    never (Some x) (Some xs) e = cc

-- ---- the tokens after the header

ok_same : {X E : Type 0} {x y : X} → ◌≡◌ {A = Result X E} (Ok x) (Ok y) → x ≡ y
ok_same h = cc

module _ (n announced rows end : ℕ) (room : announced ≤ usable rows) where
  abbrev Runs : List ℤ → List Clause → Type 0
  Runs numbers cs = (ts : List Piece) → numbers_of ts ≡ Some numbers → OnPoints n cs → (filed : List Clause) → length filed + length cs ≡ announced
      → body n announced rows end ts (record { filed = filed; pending = bare }) ≡ accepted (filed ++ cs) n

  runs_nothing : Runs [] []
  unfolding body
  runs_nothing ts e known filed count =
      ap (λ (x : List Piece). body n announced rows end x (record { filed = filed; pending = bare })) (no_tokens ts e)
      ∙ cond-true _ _ _ (eq-eqb (length filed) announced (omega arith))
      ∙ ap (λ (x : List Clause). accepted x n) (sym (append-nil filed))

  module _ (c : Clause) (cs : List Clause) (rest : List ℤ) (later : Runs rest cs) (known : OnPoints n (c ∷ cs)) (filed : List Clause)
      (count : length filed + length (c ∷ cs) ≡ announced) where
    under : length filed < announced
    under = omega arith

    -- what is left of the group, ys, comes to what is made of xs
    group : (ys xs : List ℤ) (s : LiteralSet) → made xs ≡ Ok s → made (xs ++ ys) ≡ Ok c.literals → (ts : List Piece) → numbers_of ts ≡ Some (ys ++ pos 0 ∷ rest)
        → body n announced rows end ts (record { filed = filed; pending = s }) ≡ accepted (filed ++ c ∷ cs) n
    unfolding body numbers_of
    group ys xs s before all [] e = absurd (empty ys e)
      where
        empty : (ys : List ℤ) → Some [] ≡ Some (ys ++ pos 0 ∷ rest) → ⊥
        empty [] h = cc
        empty (y ∷ ys) h = cc
    group [] xs s before all (t ∷ ts) e =
        let parts = and_then_lem (number_of t.1) (numbers_of ts) (pos 0) rest e in
        let st : Progress = record { filed = filed; pending = s } in
        let is : s ≡ c.literals = ok_same (sym before ∙ sym (ap made (append-nil xs)) ∙ all) in
        ap (go_on n announced rows end (body n announced rows end ts) filed t.0)
        (token_end n announced rows st t.1 under parts.0
        ∙ cond-true _ _ _
        (lt-ltb (length filed) (usable rows) (omega (arith, under))))
        ∙ later ts parts.1 known.1 (filed ++ clause_of s ∷ []) (omega (arith, length-append filed (clause_of s ∷ [])))
        ∙ ap (λ (x : List Clause). accepted x n) (append_assoc filed (clause_of s ∷ []) cs ∙ ap (λ (s : LiteralSet). filed ++ clause_of s ∷ cs) is)
    group (y ∷ ys) xs s before all (t ∷ ts) e =
        let parts = and_then_lem (number_of t.1) (numbers_of ts) y (ys ++ pos 0 ∷ rest) e in
        let st : Progress = record { filed = filed; pending = s } in
        let lit = inner_literal xs y ys s c.literals before all in
        let low = inner_known xs y ys s c.literals before all n known.0 in
        let more = inner_extended xs y ys s c.literals before all in
        ap (go_on n announced rows end (body n announced rows end ts) filed t.0)
        (token_literal n announced rows st t.1 under y parts.0 (λ z. true≢false (sym (sym (ap is_literal z) ∙ lit)))
        ∙ ap (with_pending filed) (added n s more.0 y lit low more.1))
        ∙ group ys (xs ++ y ∷ []) more.0 (made_push xs y s before lit ∙ more.1) (ap made (append_assoc xs (y ∷ []) ys) ∙ all) ts parts.1

  runs : {numbers : List ℤ} {cs : List Clause} → Spells numbers cs → Runs numbers cs
  runs nothing = runs_nothing
  runs (clause zs c rest cs is sp) = λ ts e known filed count. group c cs rest (runs sp) known filed count zs [] bare made_none is ts e

-- ---- the whole text

pub case_accepted : (rows : ℕ) (text : List ℕ) (n : ℕ) (cs : List Clause) → Case rows text n cs → reading rows text ≡ accepted cs n
unfolding reading
case_accepted rows text n cs k =
    let d = k.denotes in
    let start = d.line.0 in
    cond-true _ _ _ (le-leb (length text) 16384 k.short)
    ∙ ap (from_line rows (length text)) d.first
    ∙ ap (from_header rows (length text) start d.after) d.announces
    ∙ cond-true _ _ _
    (and_from (leb 1 n) (leb n 64) (le-leb 1 n k.some) (le-leb n 64 k.few))
    ∙ runs n (length cs) rows (length text) k.room d.spells (tokens d.after) d.writes d.known [] (omega arith)

-- ---- what the answer says of the text

pub judged : (rows : ℕ) (text : List ℕ) (table after : List Clause) (r : Result OpenCase Fault) → Answers (reading rows text) r
    → after ≡ over (reading rows text).clauses table → Judged rows text after r
judged rows text table after (Ok c) (e, count, note) is =
    subst (Case rows text c.points) (sym (ap₂ (λ (n : ℕ) (t : List Clause). take n t) count is ∙ take_at (reading rows text).clauses _ _ refl))
    (accepted_case rows text c.points e)
judged rows text table after (Err f) e is = λ n cs k. cc (case_accepted rows text n cs k)
