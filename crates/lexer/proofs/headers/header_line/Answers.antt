use Rattle.std.proofs.Common.{◌≡◌, ◌+◌, List, length, IfSome, None, Some, MatchOption, Option, ℕ, not, rules, tests}
use Rattle.std.specs.Option.{option_map}
use Rattle.std.proofs.lemmas.Iterator.Consumers.{YieldsList-from_first}
use Rattle.std.proofs.lemmas.Iterator.Search.{find_from_yields_List}
use Rattle.lexer.specs.Text.{lines_from}
use Rattle.lexer.specs.Cuts.{part}
use Rattle.lexer.specs.Parts.{piece_of, lines_left}
use Rattle.lexer.specs.Headers.{begins_with, headed, HeaderAt}
use Rattle.lexer.specs.declared.part.Part.{Part}
use Rattle.lexer.proofs.LineLaws.{Headline, header_found}
use Rattle.lexer.proofs.headers.header_line.Goals as goal

-- what is said of the piece that is found, said of the part
line_of : (text : List ℕ) (none : Type 0) (r : Option Part) → MatchOption (option_map piece_of r) none (Headline text) → MatchOption r none (λ l. HeaderAt text l.start (l.start + length l.bytes.now))
line_of text none None h = h
line_of text none (Some l) h = h.0

bytes_of : (text : List ℕ) (none : Type 0) (r : Option Part) → MatchOption (option_map piece_of r) none (Headline text) → IfSome r (λ l. l.bytes.now ≡ part l.start (l.start + length l.bytes.now) text)
bytes_of text none None h = tt
bytes_of text none (Some l) h = h.1

pub returns : goal.returns
returns c =
    let text = c.args.text.now in
    let found =
    find_from_yields_List (λ l. not (begins_with 99 l.1)) c.find.new.self _ c.find.result c.find.ensures.ran
    (YieldsList-from_first piece_of lines_left (lines_from 0 text) c.new.ensures) (λ x b q k. search (rules, tests)) in
    let here = header_found text (option_map piece_of c.find.result) found in
    let none : Type 0 = headed (lines_from 0 text) ≡ None in
    record { line = line_of text none c.find.result here; bytes = bytes_of text none c.find.result here }
