-- Counting the points with a property, the last of them, and whether there is one. Properties are tests on points; the sizes of
-- unions, intersections and differences are counts of `or`, `and` and `and not`. Assumes nothing.
use Rattle.std.proofs.Common.{◌≡◌, ℕ, zero, suc, ◌+◌, ◌-◌, ◌<◌, ◌≤◌, Bool, true, false, cond, not, ◌&&◌, ◌||◌, leb, ◌⊎◌, Decides, refl, ap, ◌∙◌, ap₂, inl, inr, not-suc-le-zero, add-zero, add-suc, arith}
use Rattle.std.proofs.Math.Bool.{and-true}
use Rattle.std.proofs.lemmas.Bool.{cases_lt, le-leb, lt-leb, and_right}
use Rattle.std.proofs.lemmas.Bool.Decides.{nat_tests, Decides-like, Decides-below_or}
use Rattle.points.specs.Sets.{counted, last_of, some_of}

-- ---- beyond the points with the property nothing changes

pub counted_beyond : (P : ℕ → Bool) (n j : ℕ) → ((p : ℕ) → n < p → P p ≡ false) → counted P (n + j) ≡ counted P n
unfolding counted
counted_beyond P n zero none = ap (counted P) (add-zero n)
counted_beyond P n (suc j) none =
    ap (counted P) (add-suc n j)
    ∙ ap₂ (λ (t : Bool) (m : ℕ). cond t 1 0 + m) (none (suc (n + j)) (omega arith)) (counted_beyond P n j none)
    ∙ omega arith

pub last_beyond : (P : ℕ → Bool) (n j : ℕ) → ((p : ℕ) → n < p → P p ≡ false) → last_of P (n + j) ≡ last_of P n
unfolding last_of
last_beyond P n zero none = ap (last_of P) (add-zero n)
last_beyond P n (suc j) none =
    ap (last_of P) (add-suc n j)
    ∙ ap (λ (t : Bool). cond t (suc (n + j)) (last_of P (n + j))) (none (suc (n + j)) (omega arith))
    ∙ last_beyond P n j none

-- ---- one point at a time

-- properties that agree on the points are counted alike
pub counted_agree : (P Q : ℕ → Bool) (n : ℕ) → ((p : ℕ) → 1 ≤ p → p ≤ n → P p ≡ Q p) → counted P n ≡ counted Q n
unfolding counted
counted_agree P Q zero h = refl
counted_agree P Q (suc k) h =
    ap₂ (λ (b : Bool) (m : ℕ). cond b 1 0 + m) (h (suc k) (omega arith) (omega arith)) (counted_agree P Q k (λ p l u. h p l (omega arith)))

-- a property within another is counted at most as often
pub counted_within : (P Q : ℕ → Bool) (n : ℕ) → ((p : ℕ) → P p ≡ true → Q p ≡ true) → counted P n ≤ counted Q n
unfolding counted
counted_within P Q zero h = omega arith
counted_within P Q (suc k) h = let rest = counted_within P Q k h in let here = h (suc k) in grind (arith, nat_tests)

-- a union and an intersection have together as many as the two
pub counted_either : (P Q : ℕ → Bool) (n : ℕ) → counted (λ p. P p || Q p) n + counted (λ p. P p && Q p) n ≡ counted P n + counted Q n
unfolding counted
counted_either P Q zero = refl
counted_either P Q (suc k) = let rest = counted_either P Q k in grind (arith, nat_tests)

-- a difference and an intersection have together as many as the first
pub counted_but : (P Q : ℕ → Bool) (n : ℕ) → counted (λ p. P p && not (Q p)) n + counted (λ p. P p && Q p) n ≡ counted P n
unfolding counted
counted_but P Q zero = refl
counted_but P Q (suc k) = let rest = counted_but P Q k in grind (arith, nat_tests)

-- ---- as many as wanted

-- a count goes up by at most one a point, so it takes every value on its way
pub counted_reaches : (P : ℕ → Bool) (n k : ℕ) → k ≤ counted P n → (c : ℕ) × (c ≤ n) × (counted P c ≡ k)
unfolding counted
counted_reaches P zero k h = (0, omega arith, omega arith)
counted_reaches P (suc m) k h = go (λ l. counted_reaches P m k l) (cases_lt (counted P m) k)
  where
    most : (b : Bool) → cond b 1 0 ≤ 1
    most true = omega arith
    most false = omega arith

    go : (k ≤ counted P m → (c : ℕ) × (c ≤ m) × (counted P c ≡ k)) → (counted P m < k) ⊎ (k ≤ counted P m) → (c : ℕ) × (c ≤ suc m) × (counted P c ≡ k)
    go before (inl l) = let step = most (P (suc m)) in let all : cond (P (suc m)) 1 0 + counted P m ≡ k = omega arith in (suc m, omega arith, all)
    go before (inr l) = let r = before l in (r.0, omega (arith, r.1), r.2)

-- the points up to c with a property are counted by counting up to c
pub counted_up_to : (P : ℕ → Bool) (n c : ℕ) → c ≤ n → counted (λ p. P p && leb p c) n ≡ counted P c
counted_up_to P n c h =
    ap (counted (λ p. P p && leb p c)) (let e : n ≡ c + (n - c) = omega arith in e)
    ∙ counted_beyond (λ p. P p && leb p c) c (n - c) (λ p l. and_right (P p) (leb p c) (lt-leb p c l))
    ∙ counted_agree (λ p. P p && leb p c) P c (λ p l u. ap (λ (b : Bool). P p && b) (le-leb p c u) ∙ and-true (P p))

-- ---- whether some point has a property

pub some_decides : (P : ℕ → Bool) (n : ℕ) → Decides (some_of P n) ((p : ℕ) × (1 ≤ p) × (p ≤ n) × (P p ≡ true))
unfolding some_of
some_decides P n =
    Decides-like (some_of P n) (λ f. (suc f.0, omega arith, f.1, f.2)) back
    (Decides-below_or (λ k. P (suc k)) (λ k. P (suc k) ≡ true) (some_of P) (λ k. (λ e. e, λ e. e)) refl (λ _. refl) n)
  where
    back : (p : ℕ) × (1 ≤ p) × (p ≤ n) × (P p ≡ true) → (k : ℕ) × (k < n) × (P (suc k) ≡ true)
    back (zero, l, u, h) = absurd (not-suc-le-zero l)
    back (suc k, l, u, h) = (k, u, h)

pub some_agree : (P Q : ℕ → Bool) (n : ℕ) → ((p : ℕ) → 1 ≤ p → p ≤ n → P p ≡ Q p) → some_of P n ≡ some_of Q n
unfolding some_of
some_agree P Q zero h = refl
some_agree P Q (suc k) h = ap₂ (λ (x y : Bool). x || y) (h (suc k) (omega arith) (omega arith)) (some_agree P Q k (λ p l u. h p l (omega arith)))
