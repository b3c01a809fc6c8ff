use Rattle.std.proofs.Common.{cond, None, arith, ◌≡◌, [], ◌∷◌, sym, ap, ◌∙◌}
use Rattle.std.proofs.lemmas.Grind.{common_steps}
use Rattle.lexer.specs.Headers.{fields, fields_of}
use Rattle.lexer.specs.Parts.{piece_of}
use Rattle.lexer.specs.declared.pieces.Cut.TheVariants.{Blank}
use Rattle.lexer.proofs.Headlines.{word_in, fields_four}
use Rattle.lexer.proofs.headers.Header.from_words.Goals as goal
use Rattle.lexer.proofs.headers.Header.from_words.Goals.{After-ends_line}

-- what the line says, by the four words that the code has taken
said : (c : After-ends_line)
    → fields_of c.args.line.now
    ≡ cond c.ends_line.result (fields (piece_of c.in_ok-letter.letter ∷ piece_of c.in_ok-format.format ∷ piece_of c.in_ok-points.points ∷ piece_of c.in_ok-clauses.clauses ∷ [])) None
said c =
    let s = c.next-3.new.self in
    let w₁ = c.in_ok-letter.ensures.steps in
    let w₂ = c.in_ok-format.ensures.steps in
    let w₃ = c.in_ok-points.ensures.steps in
    let w₄ = c.in_ok-clauses.ensures.steps in
    let first = piece_of c.in_ok-letter.letter in
    let second = piece_of c.in_ok-format.format in
    let third = piece_of c.in_ok-points.points in
    let fourth = piece_of c.in_ok-clauses.clauses in
    let line : s.text ≡ c.args.line = w₃.1.text ∙ w₂.1.text ∙ w₁.1.text ∙ c.new-words.ensures.text in
    let blank : s.cut ≡ Blank = w₃.1.cut ∙ w₂.1.cut ∙ w₁.1.cut ∙ c.new-words.ensures.cut in
    let all = sym c.new-words.ensures.left ∙ w₁.0 ∙ ap (λ ws. first ∷ ws) (w₂.0 ∙ ap (λ ws. second ∷ ws) (w₃.0 ∙ ap (λ ws. third ∷ ws) w₄.0)) in
    rw c.ends_line.ensures
    (fields_four c.args.line.now s.at first second third fourth _ all (word_in c.args.line.now s c.in_ok-clauses.clauses c.next-4.new.self (ap (λ text. text.now) line) blank w₄.1))

pub returns-then-not-ends_line-clause-value : goal.returns-then-not-ends_line-clause-value
returns-then-not-ends_line-clause-value c =
    let is = said (goal.at.returns-then-not-ends_line-clause-value c).After-ends_line in
    grind (arith, common_steps)

pub returns-clause-value : goal.returns-clause-value
returns-clause-value c =
    let is = said (goal.at.returns-clause-value c).After-ends_line in
    grind (arith, common_steps)
