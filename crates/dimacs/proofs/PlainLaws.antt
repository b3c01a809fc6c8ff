-- The plain form of a list of clauses denotes them. Assumes nothing.
use Rattle.std.proofs.Common.{◌≡◌, ℕ, ◌+◌, ◌≤◌, false, List, [], ◌∷◌, ◌++◌, length, Some, None, codes, refl, ap, ◌∙◌, subst, ap₂, append_assoc, arith, lit≤}
use lib.Count.{count_leading_zeros}
use Rattle.std.proofs.ByRecursion.{All-append}
use Rattle.std.proofs.lemmas.Bool.{cond-false}
use Rattle.lexer.specs.Headers.{last_byte, headed, header_of, fields_of, fields, counts}
use Rattle.lexer.specs.Text.{is_blank, is_line_end, words, lines_from, tokens_from}
use Rattle.points.specs.Sets.{has, member, joined, greatest}
use Rattle.statements.specs.declared.clause.Clause.{Clause}
use Rattle.dimacs.specs.Denoting.{OnPoints, Denotes}
use Rattle.dimacs.specs.Plain.{digits_by, decimal_of, literals_text, clause_lines, header_line, plain, ReadsBack, first_clause, second_clause, two_clauses, Example}
use Rattle.dimacs.proofs.AcceptLaws.{case_accepted}
use Rattle.dimacs.proofs.PlainClauses.{line_numbers, lines_spell, lines_write}
use Rattle.dimacs.proofs.PlainNumbers.{decimal_some, decimal_numeral, decimal_unbroken, decimal_unblank}
use Rattle.dimacs.proofs.PlainWords.{Whole, words_front, words_whole, last_whole, lines_front}

-- ---- the header line

module _ (n m : ℕ) (few : n ≤ 99999) (less : m ≤ 99999) where
  header_unbroken : Whole is_line_end (header_line n m)
  header_unbroken =
      let numbers = All-append (λ b. is_line_end b ≡ false) (decimal_of n) (32 ∷ decimal_of m) (decimal_unbroken n few) (refl, decimal_unbroken m less) in
      (refl, (refl, (refl, (refl, (refl, (refl, numbers))))))

  header_end : is_blank (last_byte (header_line n m)) ≡ false
  header_end =
      subst (λ bs. is_blank (last_byte (codes "p cnf " ++ bs)) ≡ false) (append_assoc (decimal_of n) (32 ∷ []) (decimal_of m))
      (last_whole is_blank (codes "p cnf " ++ (decimal_of n ++ 32 ∷ [])) (decimal_of m) (decimal_some m less) (decimal_unblank m less))

  header_words : words is_blank 0 (header_line n m)
      ≡ (0, codes "p") ∷ (2, codes "cnf") ∷ (6, decimal_of n) ∷ (6 + length (decimal_of n) + 1, decimal_of m) ∷ []
  header_words =
      words_front is_blank 0 (codes "p") 32 (codes "cnf " ++ (decimal_of n ++ 32 ∷ decimal_of m)) (lit≤ tt) (refl, tt) refl
      ∙ ap (λ ws. (0, codes "p") ∷ ws)
      (words_front is_blank 2 (codes "cnf") 32 (decimal_of n ++ 32 ∷ decimal_of m) (lit≤ tt) (refl, (refl, (refl, tt))) refl
      ∙ ap (λ ws. (2, codes "cnf") ∷ ws)
      (words_front is_blank 6 (decimal_of n) 32 (decimal_of m) (decimal_some n few) (decimal_unblank n few) refl
      ∙ ap (λ ws. (6, decimal_of n) ∷ ws) (words_whole is_blank (6 + length (decimal_of n) + 1) (decimal_of m) (decimal_some m less) (decimal_unblank m less))))

  header_says : header_of (header_line n m) ≡ Some (record { points = n; points_at = 6; clauses = m })
  unfolding header_of fields_of
  header_says =
      cond-false (is_blank (last_byte (header_line n m))) None (fields (words is_blank 0 (header_line n m))) header_end
      ∙ ap fields header_words
      ∙ ap₂ (counts 6) (decimal_numeral n few) (decimal_numeral m less)

pub plain_denotes : (n : ℕ) (cs : List Clause) → n ≤ 64 → length cs ≤ 99999 → OnPoints n cs → Denotes (plain n cs) n cs
unfolding headed tokens_from
plain_denotes n cs few less known =
    let low : n ≤ 99999 = omega arith in
    let line = header_line n (length cs) in
    let next = 0 + length line + 1 in
    record {
      line = (0, line);
      after = lines_from next (clause_lines cs);
      at = 6;
      numbers = line_numbers cs;
      first = ap headed (lines_front 0 line (clause_lines cs) (header_unbroken n (length cs) low less));
      announces = header_says n (length cs) low less;
      writes = lines_write cs next;
      spells = lines_spell cs;
      known = known;
    }

-- the plain form reads back
pub reads_back : ReadsBack
reads_back rows n cs some few known room short =
    let less : length cs ≤ 99999 = omega (arith, room) in
    case_accepted rows (plain n cs) n cs (record { short = short; some = some; few = few; room = room; denotes = plain_denotes n cs few less known })

-- ---- the example

case_plain : plain 3 two_clauses ≡ codes "p cnf 3 2\n1 2 0\n-1 3 0\n"
unfolding two_clauses first_clause second_clause digits_by literals_text clause_lines member has joined greatest count_leading_zeros
case_plain = refl

pub example : Example
unfolding two_clauses first_clause second_clause joined greatest count_leading_zeros
example = record {
  short = lit≤ tt;
  some = lit≤ tt;
  few = lit≤ tt;
  room = lit≤ tt;
  denotes = subst (λ bs. Denotes bs 3 two_clauses) case_plain (plain_denotes 3 two_clauses (lit≤ tt) (lit≤ tt) (lit≤ tt, (lit≤ tt, tt)));
}
