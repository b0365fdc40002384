-- The words before the tables, one after another. Assumes nothing.
use mathlib.Core.Path.{◌≡◌, subst}
use mathlib.Core.List.{List, [], ◌∷◌, ◌++◌}
use Prim.Native.Nat.{ℕ, ◌+◌, ◌*◌, ◌≤◌}
use native.Mathlib.Omega.{arith}
use lib.ListN.{length}
use Rattle.vocabulary.specs.Bytes.{Bytes}
use Rattle.vocabulary.specs.Intervals.{listed}
use Rattle.vocabulary.proofs.IntervalLaws.{listed_length}
use Rattle.layout.specs.Words.{word_at}
use Rattle.part_state.specs.State.{import_word}
use Rattle.word_lists.specs.Putting.{Put}
use Rattle.word_lists.proofs.PutLaws.{put_both, put_four}

put_at : (a b : Bytes) (s t u : ℕ) (ws : List ℕ) → Put a b s t ws → t ≡ u → Put a b s u ws
put_at a b s t u ws P e = subst (λ k. Put a b s k ws) e P

-- the words before the tables, each put where the ones before it end
pub header_put : (b₀ b₁ b₂ b₃ b₄ b₅ b₆ b₇ : Bytes) (s₁ s₂ s₃ s₄ s₅ s₆ t₁ t₂ t₃ t₄ t₅ t₆ t₇ long i steps kind first cells : ℕ) (v : Bytes) → 2 * import_word ≤ length b₀
    → s₁ ≡ 1 → s₂ ≡ s₁ + 1 → s₃ ≡ s₂ + 1 → s₄ ≡ s₃ + 1 → s₅ ≡ s₄ + 5 → s₆ ≡ s₅ + 1
    → Put b₀ b₁ 0 t₁ (long ∷ []) → Put b₁ b₂ s₁ t₂ (i ∷ []) → Put b₂ b₃ s₂ t₃ (steps ∷ []) → Put b₃ b₄ s₃ t₄ (kind ∷ []) → Put b₄ b₅ s₄ t₅ (listed 0 5 (word_at v))
    → Put b₅ b₆ s₅ t₆ (first ∷ []) → Put b₆ b₇ s₆ t₇ (cells ∷ [])
    → Put b₀ b₇ 0 t₇ ((long ∷ i ∷ steps ∷ kind ∷ []) ++ (listed 0 5 (word_at v) ++ (first ∷ cells ∷ [])))
header_put b₀ b₁ b₂ b₃ b₄ b₅ b₆ b₇ s₁ s₂ s₃ s₄ s₅ s₆ t₁ t₂ t₃ t₄ t₅ t₆ t₇ long i steps kind first cells v room e₁ e₂ e₃ e₄ e₅ e₆ P₁ P₂ P₃ P₄ P₅ P₆ P₇ =
    let Q₁ : Put b₀ b₁ 0 s₁ (long ∷ []) = put_at b₀ b₁ 0 t₁ s₁ (long ∷ []) P₁ (omega (arith, P₁.count)) in
    let Q₂ : Put b₀ b₂ 0 s₂ (long ∷ i ∷ []) = put_at b₀ b₂ 0 t₂ s₂ (long ∷ i ∷ [])
    (put_both b₀ b₁ b₂ 0 s₁ t₂ (long ∷ []) (i ∷ []) Q₁ P₂ (omega arith)) (omega (arith, P₂.count)) in
    let Q₃ : Put b₀ b₃ 0 s₃ (long ∷ i ∷ steps ∷ []) = put_at b₀ b₃ 0 t₃ s₃ (long ∷ i ∷ steps ∷ [])
    (put_both b₀ b₂ b₃ 0 s₂ t₃ (long ∷ i ∷ []) (steps ∷ []) Q₂ P₃ (omega arith)) (omega (arith, P₃.count)) in
    let Q₄ : Put b₀ b₄ 0 s₄ (long ∷ i ∷ steps ∷ kind ∷ []) = put_at b₀ b₄ 0 t₄ s₄ (long ∷ i ∷ steps ∷ kind ∷ [])
    (put_both b₀ b₃ b₄ 0 s₃ t₄ (long ∷ i ∷ steps ∷ []) (kind ∷ []) Q₃ P₄ (omega arith)) (omega (arith, P₄.count)) in
    let Q₅ : Put b₄ b₅ s₄ s₅ (listed 0 5 (word_at v)) = put_at b₄ b₅ s₄ t₅ s₅ (listed 0 5 (word_at v)) P₅ (omega (arith, P₅.count, listed_length 0 (word_at v) 5)) in
    let Q₆ : Put b₅ b₆ s₅ s₆ (first ∷ []) = put_at b₅ b₆ s₅ t₆ s₆ (first ∷ []) P₆ (omega (arith, P₆.count)) in
    put_four b₀ b₄ b₅ b₆ b₇ 0 s₄ s₅ s₆ t₇ (long ∷ i ∷ steps ∷ kind ∷ []) (listed 0 5 (word_at v)) (first ∷ []) (cells ∷ []) (omega (arith, P₇.count)) Q₄ Q₅ Q₆ P₇
