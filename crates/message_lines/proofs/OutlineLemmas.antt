-- The text of an outline as it grows, and how long it is.
use Rattle.std.proofs.Common.{◌≡◌, ℕ, ◌+◌, ◌≤◌, min, List, [], ◌∷◌, ◌++◌, length, sym, ap, ◌∙◌, arith, flat_map}
use Rattle.std.proofs.lemmas.List.{append_assoc, append-nil, length-append}
use Rattle.std.proofs.lemmas.List.Concat.{flat_map-append}
use Rattle.message_lines.specs.declared.leaf.Leaf.{Leaf}
use Rattle.message_lines.specs.Bodies.{base64_lines}
use Rattle.message_lines.specs.Outlines.{leaf_text, outline_text}

-- text more
pub text_more : (leaves : List Leaf) (text new octets old : List ℕ) → outline_text leaves text ≡ old → new ≡ text ++ octets → outline_text leaves new ≡ old ++ octets
text_more leaves text new octets old e f =
    ap (λ (u : List ℕ). flat_map leaf_text leaves ++ u) f ∙ sym (append_assoc (flat_map leaf_text leaves) text octets) ∙ ap (λ (u : List ℕ). u ++ octets) e

-- a leaf more, and the text before it
pub leaf_more : (leaves new : List Leaf) (leaf : Leaf) (text none old : List ℕ) → outline_text leaves text ≡ old → new ≡ leaves ++ leaf ∷ [] → leaf.before.items ≡ text → none ≡ []
    → outline_text new none ≡ old ++ base64_lines leaf.octets
leaf_more leaves new leaf text none old e f g h =
    ap (λ (u : List ℕ). flat_map leaf_text new ++ u) h ∙ append-nil (flat_map leaf_text new) ∙ ap (flat_map leaf_text) f
    ∙ flat_map-append leaf_text leaves (leaf ∷ [])
    ∙ ap (λ (u : List ℕ). flat_map leaf_text leaves ++ u) (append-nil (leaf_text leaf) ∙ ap (λ (u : List ℕ). u ++ base64_lines leaf.octets) g)
    ∙ sym (append_assoc (flat_map leaf_text leaves) text (base64_lines leaf.octets)) ∙ ap (λ (u : List ℕ). u ++ base64_lines leaf.octets) e

-- the length as far as it is counted, with a leaf more
pub counted : (len one two limit before octets whole : ℕ) (rest behind : List Leaf) (leaf : Leaf) → rest ≡ leaf ∷ behind → before ≡ length leaf.before.items
    → octets ≡ length (base64_lines leaf.octets) → one ≡ min (len + before) limit → two ≡ min (one + octets) limit
    → min (len + length (flat_map leaf_text rest)) limit ≡ min whole limit → min (two + length (flat_map leaf_text behind)) limit ≡ min whole limit
counted len one two limit before octets whole rest behind leaf e f g h k inv =
    let more : length (flat_map leaf_text rest) ≡ (length leaf.before.items + length (base64_lines leaf.octets)) + length (flat_map leaf_text behind) =
    ap (λ (u : List Leaf). length (flat_map leaf_text u)) e ∙ length-append (leaf_text leaf) (flat_map leaf_text behind)
    ∙ ap (λ (n : ℕ). n + length (flat_map leaf_text behind)) (length-append leaf.before.items (base64_lines leaf.octets)) in
    omega arith

-- with the text behind the leaves
pub counted_all : (len limit result last : ℕ) (rest : List Leaf) (leaves : List Leaf) (text : List ℕ) → rest ≡ [] → len ≤ limit → last ≡ length text → result ≡ min (len + last) limit
    → min (len + length (flat_map leaf_text rest)) limit ≡ min (length (flat_map leaf_text leaves)) limit → result ≡ min (length (outline_text leaves text)) limit
counted_all len limit result last rest leaves text e le f g inv =
    let none : length (flat_map leaf_text rest) ≡ 0 = ap (λ (u : List Leaf). length (flat_map leaf_text u)) e in
    omega (arith, length-append (flat_map leaf_text leaves) text)
