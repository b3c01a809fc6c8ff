-- What a kind of statement answers, and the laws that it keeps. An assignment says yes or no to every point, and is a function
-- here; S is the type of the statements. Assumes nothing.
use Rattle.std.specs.Prelude.{◌≡◌, ℕ, ◌<◌, ◌≤◌, max, Bool, true, Some, Option}

-- what checking a refutation asks
pub record Core (S : Type 0) : Type 0 where
  pub number : ℕ
  pub last : S → ℕ
  pub impossible : S → Bool
  pub combine : S → S → ℕ → Option S

-- what settling asks besides
pub record Kind (S : Type 0) : Type 0 where
  pub core : Core S
  pub length : S → ℕ
  pub holds : S → (ℕ → Bool) → Bool
  pub covers : S → S → Bool

-- the laws that checking rests on, over the meaning of statements
pub record Sound {S : Type 0} (K : Core S) (fits : S → (ℕ → Bool) → Type 0) : Type 0 where
  pub number_small : K.number < 64
  -- impossible says yes exactly when no assignment fits
  pub impossible_yes : (s : S) → K.impossible s ≡ true → (a : ℕ → Bool) → fits s a → ⊥
  pub impossible_no : (s : S) → ((a : ℕ → Bool) → fits s a → ⊥) → K.impossible s ≡ true
  -- what combine gives is fitted by every assignment that fits both
  pub combine_sound : (s t r : S) (p : ℕ) → K.combine s t p ≡ Some r → (a : ℕ → Bool) → fits s a → fits t a → fits r a
  -- and its last is at most the greater of theirs
  pub combine_last : (s t r : S) (p : ℕ) → K.combine s t p ≡ Some r → K.last r ≤ max (K.last s) (K.last t)

-- the laws that settling rests on besides
pub record Exact {S : Type 0} (K : Kind S) (fits : S → (ℕ → Bool) → Type 0) : Type 0 where
  -- holds says yes exactly on the fitting assignments
  pub holds_yes : (s : S) (a : ℕ → Bool) → K.holds s a ≡ true → fits s a
  pub holds_no : (s : S) (a : ℕ → Bool) → fits s a → K.holds s a ≡ true
  -- and depends only on the points 1 to last
  pub near : (s : S) (a b : ℕ → Bool) → ((p : ℕ) → 1 ≤ p → p ≤ K.core.last s → a p ≡ b p) → K.holds s a ≡ K.holds s b
  -- covers says yes exactly when every assignment that fits the first fits the second
  pub covers_yes : (s t : S) → K.covers s t ≡ true → (a : ℕ → Bool) → fits s a → fits t a
  pub covers_no : (s t : S) → ((a : ℕ → Bool) → fits s a → fits t a) → K.covers s t ≡ true
