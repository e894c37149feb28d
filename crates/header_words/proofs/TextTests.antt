-- Tests of texts, and what they say.
use Rattle.std.proofs.Common.{◌≡◌, true, false, not, List, ℕ, refl, ap}
use Rattle.std.specs.Str.{IsUtf8, is_utf8}
use Rattle.std.proofs.lemmas.Str.{IsUtf8-from_is_utf8, is_utf8-from_IsUtf8}

-- of octets that are UTF-8, the test that they aren't is false
pub utf8_passes : (b : List ℕ) → IsUtf8 b → not (is_utf8 b) ≡ false
utf8_passes b u = ap not (is_utf8-from_IsUtf8 b u)

-- of octets that aren't UTF-8, the test that they aren't is true
pub others_fail : (b : List ℕ) → (IsUtf8 b → ⊥) → not (is_utf8 b) ≡ true
others_fail b n = elim (is_utf8 b) as (λ q. is_utf8 b ≡ q → not q ≡ true) [ true ↦ λ e. absurd (n (IsUtf8-from_is_utf8 b e)) | false ↦ λ e. refl ] refl
