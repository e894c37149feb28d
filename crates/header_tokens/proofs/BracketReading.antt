-- A bracket at the front of a text is found where it is closed.
use Rattle.std.proofs.Common.{◌≡◌, ◌≢◌, ℕ, ◌+◌, false, List, [], ◌∷◌, ◌++◌, length, take, Some, None, sym, ap, ◌∙◌, append_assoc, arith}
use Rattle.std.proofs.lemmas.List.{length-append, take_at}
use Rattle.header_tokens.specs.Tokens.{IsBracketed}
use Rattle.header_tokens.specs.reading.TokenReading.{close_in}
use Rattle.header_tokens.proofs.BracketContents.{Apart, closes_again, closed_in, further_some}

-- what is read up to the closing octet is a bracket
pub bracket_read : (first o c n : ℕ) (text rest x : List ℕ) → Apart o c → text ≡ first ∷ rest → close_in o c 0 false rest ≡ Some n → x ≡ take (n + 1) text → IsBracketed first o c x
bracket_read first o c n text rest x a e f g =
    let r = closed_in (length rest) o c 0 n rest a (omega arith) f in
    let k = further_some (length r.contents + 1) n (Some 0) r.counted in
    let z : k.0 ≡ 0 = let q = k.1 in cc in
    let whole : text ≡ (first ∷ (r.contents ++ c ∷ [])) ++ r.rest =
    e ∙ ap (λ (u : List ℕ). first ∷ u) (r.whole ∙ sym (append_assoc r.contents (c ∷ []) r.rest)) in
    record {
      contents = r.contents;
      whole = g ∙ ap (take (n + 1)) whole ∙ take_at (first ∷ (r.contents ++ c ∷ [])) r.rest (n + 1) (omega (arith, k.2, z, length-append r.contents (c ∷ [])));
      inside = r.inside;
    }

-- where nothing closes it, there is none
pub none_read : (first o c : ℕ) (text rest : List ℕ) → Apart o c → text ≡ first ∷ rest → close_in o c 0 false rest ≡ None → (x y : List ℕ) → IsBracketed first o c x → text ≢ x ++ y
none_read first o c text rest a e f x y b = λ w.
    let g : first ∷ rest ≡ first ∷ ((b.contents ++ c ∷ []) ++ y) = sym e ∙ w ∙ ap (λ (u : List ℕ). u ++ y) b.whole in
    let h : rest ≡ b.contents ++ c ∷ y = let i : rest ≡ (b.contents ++ c ∷ []) ++ y = cc in i ∙ append_assoc b.contents (c ∷ []) y in
    let k = closes_again o c b.contents y a b.inside in
    let l = ap (close_in o c 0 false) h in
    absurd cc

-- a bracket begins with its first octet
pub none_begins : (first o c : ℕ) (text : List ℕ) → ((t : List ℕ) → text ≢ first ∷ t) → (x y : List ℕ) → IsBracketed first o c x → text ≢ x ++ y
none_begins first o c text n x y b = λ w. n ((b.contents ++ c ∷ []) ++ y) (w ∙ ap (λ (u : List ℕ). u ++ y) b.whole)
