-- Strings are read back as their values.
use Rattle.std.proofs.Common.{◌≡◌, ℕ, Bool, true, false, ◌&&◌, ◌||◌, List, [], ◌∷◌, ◌++◌, length, take, drop, get_or, cond, refl, sym, ap, subst, ◌∙◌, append_assoc, arith, inl}
use Rattle.std.proofs.Common.{inr}
use Rattle.std.specs.Prelude.{◌==◌}
use Rattle.std.proofs.lemmas.Bool.{cond-true, cond-false}
use Rattle.std.proofs.Math.Seq.{take-append_seam, drop-append_seam}
use Rattle.imap_types.proofs.EachLemmas.{each_to, each_append}
use Rattle.imap_automaton.proofs.StringEdges.{no_special}
use Rattle.imap_keywords.proofs.Classes.{atom_apart}
use Rattle.imap_values.specs.Spans.{span, number_in}
use Rattle.imap_values.specs.Strings.{unquoted, literal_in, atom_in, astring_in}
use Rattle.imap_values.proofs.Cuts.{small, plain_small, plain_join, cut_at, number_is, atom_small, digit_small, text_small}
use Rattle.imap_values.proofs.Lengths.{plain_length}
use Rattle.imap_values.proofs.StringLemmas.{with_octet}
use Rattle.imap_types.specs.Octets.{is_digit, is_text, is_atom}
use Rattle.imap_types.specs.Texts.{Each, plain_octets}
use Rattle.imap_types.specs.Strings.{IsAtom, escaped, quoted, IsQuoted, IsCounted, IsAString}

-- ---- quoted texts

escaped_small : (s : List ℕ) → Each is_text s → Each small (escaped s)
escaped_small [] h = tt
escaped_small (c ∷ s) h = by (c == 34 || c == 92) refl (escaped_small s h.1)
  where
    by : (b : Bool) → (c == 34 || c == 92) ≡ b → Each small (escaped s) → Each small (escaped (c ∷ s))
    by true e ih = subst (Each small) (sym (cond-true (c == 34 || c == 92) (92 ∷ c ∷ escaped s) (c ∷ escaped s) e)) (refl, (text_small c h.0, ih))
    by false e ih = subst (Each small) (sym (cond-false (c == 34 || c == 92) (92 ∷ c ∷ escaped s) (c ∷ escaped s) e)) (text_small c h.0, ih)

-- the octets of a quoted text are below 256
pub quoted_small : (s : List ℕ) → Each is_text s → Each small (quoted s)
quoted_small s h = (refl, each_append small (escaped s) (34 ∷ []) (escaped_small s h) (refl, tt))

-- up to the closing quote
unquoted_read : (s y : List ℕ) → unquoted false (escaped s ++ 34 ∷ y) ≡ (s, y)
unfolding unquoted
unquoted_read [] y = refl
unquoted_read (c ∷ s) y = by (c == 34 || c == 92) refl (unquoted_read s y)
  where
    by : (b : Bool) → (c == 34 || c == 92) ≡ b → unquoted false (escaped s ++ 34 ∷ y) ≡ (s, y) → unquoted false (escaped (c ∷ s) ++ 34 ∷ y) ≡ (c ∷ s, y)
    by true e ih =
        ap (λ (u : List ℕ). unquoted false (u ++ 34 ∷ y)) (cond-true (c == 34 || c == 92) (92 ∷ c ∷ escaped s) (c ∷ escaped s) e)
        ∙ ap (with_octet c) ih
    by false e ih =
        let n = no_special c e in
        let rest = escaped s ++ 34 ∷ y in
        ap (λ (u : List ℕ). unquoted false (u ++ 34 ∷ y)) (cond-false (c == 34 || c == 92) (92 ∷ c ∷ escaped s) (c ∷ escaped s) e)
        ∙ cond-false (c == 34) ([], rest) (cond (c == 92) (unquoted true rest) (with_octet c (unquoted false rest))) n.0
        ∙ cond-false (c == 92) (unquoted true rest) (with_octet c (unquoted false rest)) n.1
        ∙ ap (with_octet c) ih

-- ---- literals

-- a literal begins with `{`, from after which it is read as its string, and what follows it is left
pub literal_read : (s x y b : List ℕ) → (h : IsCounted s x) → b ≡ plain_octets x ++ y → (literal_in (drop 1 b) ≡ (s, y)) × (get_or b 0 0 ≡ 123)
unfolding literal_in
literal_read s x y b h e =
    let o = plain_octets h.octets in
    let tail : List ℕ = 125 ∷ 13 ∷ 10 ∷ o ++ y in
    let digits_small = each_to is_digit small h.digits digit_small h.are_digits in
    let f : b ≡ 123 ∷ (h.digits ++ tail) = e ∙ ap (λ (u : List ℕ). plain_octets u ++ y) h.whole
    ∙ ap (λ (u : List ℕ). 123 ∷ (u ++ y)) (plain_join h.digits (125 ∷ 13 ∷ 10 ∷ h.octets) digits_small)
    ∙ ap (λ (u : List ℕ). 123 ∷ u) (append_assoc h.digits (125 ∷ 13 ∷ 10 ∷ o) y) in
    let r = drop 1 b in
    let k = cut_at is_digit h.digits tail r (ap (drop 1) f) h.are_digits refl in
    let n = span is_digit r in
    let long = plain_length h.octets in
    let count : number_in (take n r) ≡ length o = ap number_in k.front ∙ number_is h.digits (let c = h.counted in let m = h.most in omega (arith, c, m)) ∙ sym h.counted
    ∙ sym long in
    let octets : drop 3 (drop n r) ≡ o ++ y = ap (drop 3) k.back in (
      ap (λ (u : List ℕ). (take (number_in (take n r)) u, drop (number_in (take n r)) u)) octets
          ∙ ap (λ (m : ℕ). (take m (o ++ y), drop m (o ++ y))) count
          ∙ ap (λ (u : List ℕ). (u, drop (length o) (o ++ y))) (take-append_seam o y ∙ sym h.string) ∙ ap (λ (u : List ℕ). (s, u)) (drop-append_seam o y),
      ap (λ (u : List ℕ). get_or u 0 0) f,
    )

-- ---- strings

-- what may stand after a string
abbrev pub Ends : List ℕ → Type 0
Ends y = (is_atom (get_or y 0 0) ≡ false) × ((get_or y 0 0 == 123) ≡ false)

abbrev tilde_or : List ℕ → List ℕ × List ℕ
tilde_or b = cond (get_or b 0 0 == 126 && get_or b 1 0 == 123) (literal_in (drop 2 b)) (atom_in b)

abbrev count_or : List ℕ → List ℕ × List ℕ
count_or b = cond (get_or b 0 0 == 123) (literal_in (drop 1 b)) (tilde_or b)

and_false : (a b : Bool) → b ≡ false → (a && b) ≡ false
and_false a b e = grind arith

atom_read : (x y b : List ℕ) → IsAtom x → Ends y → b ≡ x ++ y → astring_in b ≡ (x, y)
unfolding astring_in atom_in
atom_read [] y b h out e = absurd (omega (arith, h.1))
atom_read (c ∷ x) y b h out e =
    let a = atom_apart c h.0.0 in
    let k = cut_at is_atom (c ∷ x) y b e h.0 out.0 in
    let second : (get_or b 1 0 == 123) ≡ false = ap (λ (u : List ℕ). get_or u 1 0 == 123) e ∙ next x h.0.1 in
    cond-false (get_or b 0 0 == 34) (unquoted false (drop 1 b)) (count_or b) (ap (λ (u : List ℕ). get_or u 0 0 == 34) e ∙ a.0)
    ∙ cond-false (get_or b 0 0 == 123) (literal_in (drop 1 b)) (tilde_or b) (ap (λ (u : List ℕ). get_or u 0 0 == 123) e ∙ a.1)
    ∙ cond-false (get_or b 0 0 == 126 && get_or b 1 0 == 123) (literal_in (drop 2 b)) (atom_in b) (and_false (get_or b 0 0 == 126) (get_or b 1 0 == 123) second)
    ∙ ap (λ (u : List ℕ). (u, drop (span is_atom b) b)) k.front ∙ ap (λ (u : List ℕ). (c ∷ x, u)) k.back
  where
    next : (x : List ℕ) → Each is_atom x → (get_or (c ∷ (x ++ y)) 1 0 == 123) ≡ false
    next [] each = out.1
    next (d ∷ x) each = (atom_apart d each.0).1

quoted_read : (s x y b : List ℕ) → IsQuoted s x → b ≡ plain_octets x ++ y → astring_in b ≡ (s, y)
unfolding astring_in
quoted_read s x y b h e =
    let f : b ≡ 34 ∷ (escaped s ++ 34 ∷ y) = e ∙ ap (λ (u : List ℕ). u ++ y) (ap plain_octets h.1 ∙ plain_small (quoted s) (quoted_small s h.0))
    ∙ ap (λ (u : List ℕ). 34 ∷ u) (append_assoc (escaped s) (34 ∷ []) y) in
    cond-true (get_or b 0 0 == 34) (unquoted false (drop 1 b)) (count_or b) (ap (λ (u : List ℕ). get_or u 0 0 == 34) f)
    ∙ ap (λ (u : List ℕ). unquoted false (drop 1 u)) f ∙ unquoted_read s y

counted_read : (s x y b : List ℕ) → IsCounted s x → b ≡ plain_octets x ++ y → astring_in b ≡ (s, y)
unfolding astring_in
counted_read s x y b h e =
    let l = literal_read s x y b h e in
    cond-false (get_or b 0 0 == 34) (unquoted false (drop 1 b)) (count_or b) (ap (λ (n : ℕ). n == 34) l.1)
    ∙ cond-true (get_or b 0 0 == 123) (literal_in (drop 1 b)) (tilde_or b) (ap (λ (n : ℕ). n == 123) l.1) ∙ l.0

tilde_read : (s x y b rest : List ℕ) → x ≡ 126 ∷ rest → IsCounted s rest → b ≡ plain_octets x ++ y → astring_in b ≡ (s, y)
unfolding astring_in
tilde_read s x y b rest is h e =
    let f : b ≡ 126 ∷ (plain_octets rest ++ y) = e ∙ ap (λ (u : List ℕ). plain_octets u ++ y) is in
    let l = literal_read s rest y (drop 1 b) h (ap (drop 1) f) in
    let first : get_or b 0 0 ≡ 126 = ap (λ (u : List ℕ). get_or u 0 0) f in
    let second : get_or b 1 0 ≡ 123 = ap (λ (u : List ℕ). get_or u 1 0) f ∙ ap (λ (u : List ℕ). get_or (drop 1 u) 0 0) (sym f) ∙ l.1 in
    let twice : drop 2 b ≡ drop 1 (drop 1 b) = ap (drop 2) f ∙ ap (λ (u : List ℕ). drop 1 (drop 1 u)) (sym f) in
    cond-false (get_or b 0 0 == 34) (unquoted false (drop 1 b)) (count_or b) (ap (λ (n : ℕ). n == 34) first)
    ∙ cond-false (get_or b 0 0 == 123) (literal_in (drop 1 b)) (tilde_or b) (ap (λ (n : ℕ). n == 123) first)
    ∙ cond-true (get_or b 0 0 == 126 && get_or b 1 0 == 123) (literal_in (drop 2 b)) (atom_in b) (rw first (rw second refl))
    ∙ ap literal_in twice ∙ l.0

atom_plain : (x : List ℕ) → IsAtom x → plain_octets x ≡ x
atom_plain x h = plain_small x (each_to is_atom small x atom_small h.0)

-- an atom or a string is read as its value, and what follows is left, where that begins with no octet of an atom and no `{`
pub astring_read : (s x y b : List ℕ) → IsAString s x → Ends y → b ≡ plain_octets x ++ y → astring_in b ≡ (s, y)
astring_read s x y b (inl a) out e = atom_read x y b a.0 out (e ∙ ap (λ (u : List ℕ). u ++ y) (atom_plain x a.0)) ∙ ap (λ (u : List ℕ). (u, y)) (sym a.1)
astring_read s x y b (inr (inl q)) out e = quoted_read s x y b q e
astring_read s x y b (inr (inr (inl k))) out e = counted_read s x y b k e
astring_read s x y b (inr (inr (inr l))) out e = tilde_read s x y b l.0 l.1 l.2 e
