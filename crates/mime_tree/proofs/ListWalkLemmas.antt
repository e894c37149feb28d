-- Walks, part by part.
use Rattle.std.proofs.Common.{◌≡◌, ℕ, Bool, true, false, ◌||◌, List, [], ◌∷◌, ◌++◌, length, map, refl, sym, ap, subst, ◌∙◌, append_assoc}
use Rattle.std.specs.List.{list_any}
use Rattle.std.proofs.lemmas.List.{append-nil}
use Rattle.mime_tree.specs.declared.part.Part.{Part}
use Rattle.mime_tree.specs.declared.roles.Walk.{Walk}
use Rattle.mime_tree.specs.declared.lists.BodyLists.{BodyLists}
use Rattle.mime_tree.specs.Parts.{children}
use Rattle.mime_tree.specs.Roles.{is_leaf, leaf_number, is_downloadable, is_inline}
use Rattle.mime_tree.specs.BodyLists.{PartLists, nothing, both, at_leaf, lists_of, meeting, leaf_lists, into, next, spread, Walks, End, Multi, Leaf}
use Rattle.mime_tree.specs.reading.ListBuilding.{GainsParts, GainsBy, GainsBelow}

map_both : (a b : List Part) → map leaf_number (a ++ b) ≡ map leaf_number a ++ map leaf_number b
map_both [] b = refl
map_both (p ∷ a) b = ap (λ (l : List ℕ). leaf_number p ∷ l) (map_both a b)

or_assoc : (a b c : Bool) → (a || (b || c)) ≡ ((a || b) || c)
or_assoc true b c = refl
or_assoc false b c = refl

or_false : (a : Bool) → a ≡ (a || false)
or_false true = refl
or_false false = refl

any_both : (a b : List Part) → list_any is_downloadable (a ++ b) ≡ (list_any is_downloadable a || list_any is_downloadable b)
any_both [] b = refl
any_both (p ∷ a) b =
    ap (λ (t : Bool). is_downloadable p || t) (any_both a b) ∙ or_assoc (is_downloadable p) (list_any is_downloadable a) (list_any is_downloadable b)

grows : (old mid new : List ℕ) (a b : List Part) → mid ≡ old ++ map leaf_number a → new ≡ mid ++ map leaf_number b → new ≡ old ++ map leaf_number (a ++ b)
grows old mid new a b first second =
    second ∙ ap (λ (l : List ℕ). l ++ map leaf_number b) first ∙ append_assoc old (map leaf_number a) (map leaf_number b) ∙ ap (λ (l : List ℕ). old ++ l) (sym (map_both a b))

attaches : (old mid new : Bool) (a b : List Part) → mid ≡ (old || list_any is_downloadable a) → new ≡ (mid || list_any is_downloadable b)
    → new ≡ (old || list_any is_downloadable (a ++ b))
attaches old mid new a b first second =
    second ∙ ap (λ (t : Bool). t || list_any is_downloadable b) first
    ∙ sym (or_assoc old (list_any is_downloadable a) (list_any is_downloadable b)) ∙ ap (λ (t : Bool). old || t) (sym (any_both a b))

gains_both : {old mid new : BodyLists} {a b : PartLists} → GainsParts old mid a → GainsParts mid new b → GainsParts old new (both a b)
gains_both {old} {mid} {new} {a} {b} first second =
    record {
      text = grows old.text mid.text new.text a.text b.text first.text second.text;
      html = grows old.html mid.html new.html a.html b.html first.html second.html;
      attachments = grows old.attachments mid.attachments new.attachments a.attachments b.attachments first.attachments second.attachments;
      has_attachment = attaches old.has_attachment mid.has_attachment new.has_attachment a.attachments b.attachments first.has_attachment second.has_attachment;
    }

gains_nothing : (old : BodyLists) → GainsParts old old nothing
gains_nothing old =
    record {
      text = sym (append-nil old.text);
      html = sym (append-nil old.html);
      attachments = sym (append-nil old.attachments);
      has_attachment = or_false old.has_attachment;
    }

-- what is walked after these parts makes the whole walk
pub record SoFar (whole walk : Walk) (all left : List Part) (old now : BodyLists) : Type 0 where
  pub forth : (new : BodyLists) → GainsBy walk left now new → GainsBy whole all old new

-- past a multipart, once what the parts in it add was added and spread
pub so_far_multi : {whole walk : Walk} {all left : List Part} {old now : BodyLists} (p : Part) (ps : List Part) (mid : BodyLists) → left ≡ p ∷ ps
    → SoFar whole walk all left old now → is_leaf p ≡ false → GainsBelow walk p now mid → SoFar whole (next walk) all ps old mid
so_far_multi {walk = walk} {now = now} p ps mid is so_far no_leaf below =
    record {
      forth = λ new behind.
          let P : List Part → Type 0 = λ l. GainsBy walk l now new in
          so_far.forth new (subst P (sym is) (record {
            parts = both (spread (into walk p) below.parts) behind.parts;
            walks = Multi walk p ps (record { no_leaf = no_leaf; inner = below.parts; behind = behind.parts }) below.walks behind.walks;
            gains = gains_both below.gains behind.gains;
          }));
    }

-- past a leaf, once it was added to the lists where it goes
pub so_far_leaf : {whole walk : Walk} {all left : List Part} {old now : BodyLists} (p : Part) (ps : List Part) (mid : BodyLists) → left ≡ p ∷ ps → SoFar whole walk all left old now
    → is_leaf p ≡ true → GainsParts now mid (leaf_lists walk p) → SoFar whole (next (meeting walk p)) all ps old mid
so_far_leaf {walk = walk} {now = now} p ps mid is so_far leaf gains =
    record {
      forth = λ new behind.
          let P : List Part → Type 0 = λ l. GainsBy walk l now new in
          so_far.forth new (subst P (sym is) (record {
            parts = both (leaf_lists walk p) behind.parts;
            walks = Leaf walk p ps behind.parts leaf behind.walks;
            gains = gains_both gains behind.gains;
          }));
    }

-- past a leaf, where the walk that meets it and whether it is inline were found before
pub so_far_met : {whole walk : Walk} {all left : List Part} {old now : BodyLists} (met : Walk) (inline : Bool) (p : Part) (ps : List Part) (mid : BodyLists) → left ≡ p ∷ ps
    → SoFar whole walk all left old now → is_leaf p ≡ true → inline ≡ is_inline walk p → met ≡ at_leaf walk inline p → GainsParts now mid (lists_of met inline p)
    → SoFar whole (next met) all ps old mid
so_far_met {whole} {walk} {all} {left} {old} {now} met inline p ps mid is so_far leaf is_so meets gains =
    let so : met ≡ meeting walk p = meets ∙ ap (λ (t : Bool). at_leaf walk t p) is_so in
    let P : Walk → Type 0 = λ w. SoFar whole (next w) all ps old mid in
    let Q : Bool → Type 0 = λ t. GainsParts now mid (lists_of met t p) in
    let R : Walk → Type 0 = λ w. GainsParts now mid (lists_of w (is_inline walk p) p) in
    subst P (sym so) (so_far_leaf p ps mid is so_far leaf (subst R so (subst Q is_so gains)))

-- an equal walk and equal lists are as far
pub so_far_same : {whole walk : Walk} {all left : List Part} {old now : BodyLists} (walk' : Walk) (now' : BodyLists) → walk' ≡ walk → now' ≡ now → SoFar whole walk all left old now
    → SoFar whole walk' all left old now'
so_far_same {whole} {walk} {all} {left} {old} {now} walk' now' same_walk same_lists so_far =
    let P : Walk → Type 0 = λ w. SoFar whole w all left old now in
    let Q : BodyLists → Type 0 = λ l. SoFar whole walk' all left old l in
    subst Q (sym same_lists) (subst P (sym same_walk) so_far)

-- where no part is left, all was added that the whole walk adds
pub so_far_done : {whole walk : Walk} {all left : List Part} {old now : BodyLists} → left ≡ [] → SoFar whole walk all left old now → GainsBy whole all old now
so_far_done {walk = walk} {now = now} is so_far =
    let P : List Part → Type 0 = λ l. GainsBy walk l now now in
    so_far.forth now (subst P (sym is) (record { parts = nothing; walks = End walk; gains = gains_nothing now }))

-- a walk over the parts in a multipart, and then the spreading, add what the multipart adds
pub below_of : (walk inner : Walk) (p : Part) (kids : List Part) (old mid new : BodyLists) (text html : ℕ) → kids ≡ children p → inner ≡ into walk p → GainsBy inner kids old mid
    → length old.text ≡ text → length old.html ≡ html → ((old : BodyLists) (a : PartLists) → length old.text ≡ text → length old.html ≡ html → GainsParts old mid a
    → GainsParts old new (spread inner a)) → GainsBelow walk p old new
below_of walk inner p kids old mid new text html same is by long_text long_html spreads =
    let P : Walk → Type 0 = λ w. Walks w (children p) by.parts in
    let Q : List Part → Type 0 = λ l. Walks inner l by.parts in
    let R : Walk → Type 0 = λ w. GainsParts old new (spread w by.parts) in
    record { parts = by.parts; walks = subst P is (subst Q same by.walks); gains = subst R is (spreads old by.parts long_text long_html by.gains) }
