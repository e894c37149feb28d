-- No parts have two walks.
use Rattle.std.proofs.Common.{◌≡◌, ℕ, Bool, map, List, [], ◌∷◌, refl, sym, ap, ◌∙◌}
use Rattle.std.specs.List.{list_any}
use Rattle.mime_tree.specs.declared.lists.BodyLists.{BodyLists}
use Rattle.mime_tree.specs.declared.part.Part.{Part}
use Rattle.mime_tree.specs.declared.roles.Walk.{Walk}
use Rattle.mime_tree.specs.Roles.{leaf_number, is_downloadable}
use Rattle.mime_tree.specs.BodyLists.{PartLists, start, AreBodyLists, nothing, both, leaf_lists, into, spread, Walks, End, Multi, Leaf}

abbrev pub Ends : List Part → PartLists → Type 0
Ends [] a = a ≡ nothing
Ends (p ∷ ps) a = Unit {0}

-- a walk over no parts adds nothing
pub ends : (walk : Walk) (ps : List Part) (a : PartLists) → Walks walk ps a → Ends ps a
ends _ _ _ (End walk) = refl
ends _ _ _ (Multi walk p ps a below rest) = tt
ends _ _ _ (Leaf walk p ps behind leaf rest) = tt

-- two equal walks over the same parts add the same
pub one_walk : (walk : Walk) (ps : List Part) (a c : PartLists) → Walks walk ps a → Walks walk ps c → a ≡ c
one_walk _ _ _ c (End walk) other = sym (ends walk [] c other)
one_walk _ _ _ c (Multi walk p ps x below rest) (Multi _ _ _ y below' rest') =
    ap (λ (a : PartLists). both (spread (into walk p) a) x.behind) (one_walk _ _ x.inner y.inner below below')
    ∙ ap (λ (a : PartLists). both (spread (into walk p) y.inner) a) (one_walk _ _ x.behind y.behind rest rest')
one_walk _ _ _ c (Multi walk p ps x below rest) (Leaf _ _ _ behind' leaf rest') = absurd (let e = sym x.no_leaf ∙ leaf in cc)
one_walk _ _ _ c (Leaf walk p ps behind leaf rest) (Multi _ _ _ y below' rest') = absurd (let e = sym y.no_leaf ∙ leaf in cc)
one_walk _ _ _ c (Leaf walk p ps behind leaf rest) (Leaf _ _ _ behind' leaf' rest') =
    ap (λ (a : PartLists). both (leaf_lists walk p) a) (one_walk _ _ behind behind' rest rest')

make : List ℕ → List ℕ → List ℕ → Bool → BodyLists
make text html attachments has = record { text = text; html = html; attachments = attachments; has_attachment = has }

-- body lists with equal fields are equal
pub lists_eq : (l m : BodyLists) → l.text ≡ m.text → l.html ≡ m.html → l.attachments ≡ m.attachments → l.has_attachment ≡ m.has_attachment → l ≡ m
unfolding make
lists_eq l m text html attachments has =
    ap (λ (x : List ℕ). make x l.html l.attachments l.has_attachment) text
    ∙ ap (λ (x : List ℕ). make m.text x l.attachments l.has_attachment) html
    ∙ ap (λ (x : List ℕ). make m.text m.html x l.has_attachment) attachments
    ∙ ap (λ (x : Bool). make m.text m.html m.attachments x) has

-- a part has at most one value of its body lists
pub one_value : (p : Part) (l m : BodyLists) → AreBodyLists l p → AreBodyLists m p → l ≡ m
one_value p l m i j =
    let same = one_walk start (p ∷ []) i.parts j.parts i.walks j.walks in
    lists_eq l m
    (i.text ∙ ap (λ (a : PartLists). map leaf_number a.text) same ∙ sym j.text)
    (i.html ∙ ap (λ (a : PartLists). map leaf_number a.html) same ∙ sym j.html)
    (i.attachments ∙ ap (λ (a : PartLists). map leaf_number a.attachments) same ∙ sym j.attachments)
    (i.has_attachment ∙ ap (λ (a : PartLists). list_any is_downloadable a.attachments) same ∙ sym j.has_attachment)
