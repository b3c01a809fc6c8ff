-- Which bytes cut a text, and what the functions that cut it answer. Assumes nothing.
use Rattle.std.specs.Prelude.{◌≡◌, ℕ, ◌+◌, ◌-◌, ◌<◌, ◌≤◌, Bool, not, List, ◌∷◌, length, take, drop}
use Rattle.std.specs.Borrow.{Bor}
use Rattle.lexer.specs.Text.{is_line_end, is_blank, is_separator, run, words}
use Rattle.lexer.specs.declared.pieces.Cut.{Cut}
use Rattle.lexer.specs.declared.pieces.Cut.TheVariants.{LineEnd, Blank, Space}

-- the bytes of each kind of cut
abbrev pub cuts_at : Cut → ℕ → Bool
cuts_at LineEnd b = is_line_end b
cuts_at Blank b = is_blank b
cuts_at Space b = is_separator b

-- each call of a closure answers the test of the byte, and leaves the closure as it was
abbrev pub ComputesTest : {F : Type 0} → (F → Bor ℕ → Bool → F → Type 0) → F → (ℕ → Bool) → Type 0
ComputesTest {F} step f test = (b : Bor ℕ) (r : Bool) (g : F) → step f b r g → (g ≡ f) × (r ≡ test b.now)

-- the bytes of a text from `start` up to, not including, `end`
abbrev pub part : ℕ → ℕ → List ℕ → List ℕ
part start end text = take (end - start) (drop start text)

-- a text has a word from `start` to `end`, and the other words from `start` on come after it
pub record WordAt (cuts : ℕ → Bool) (text : List ℕ) (start end : ℕ) : Type 0 where
  pub some : start < end
  pub inside : end ≤ length text
  pub ends : end ≡ start + run cuts (drop start text)
  pub split : words cuts start (drop start text) ≡ (start, part start end text) ∷ words cuts end (drop end text)

-- the first word of a text at `from` or later stands from `start` to `end`
pub record FirstWord (cuts : ℕ → Bool) (text : List ℕ) (from start end : ℕ) : Type 0 where
  pub begins : start ≡ from + run (λ b. not (cuts b)) (drop from text)
  pub some : start < end
  pub inside : end ≤ length text
  pub ends : end ≡ start + run cuts (drop start text)
  pub split : words cuts from (drop from text) ≡ (start, part start end text) ∷ words cuts end (drop end text)
