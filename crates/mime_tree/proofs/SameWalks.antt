-- Parts that are the same have the same walks, up to memory.
use Rattle.std.proofs.Common.{◌≡◌, ℕ, zero, suc, Bool, true, false, not, if◌then◌else◌, map, List, [], ◌∷◌, ◌++◌, Option, codes, is_some, unwrap_or, refl, sym, ap, subst, ◌∙◌}
use Rattle.std.specs.Prelude.{◌&&◌, ◌||◌}
use Rattle.std.specs.List.{list_any}
use Rattle.std.specs.Option.{option_map_or}
use Rattle.text_words.specs.Octets.{is_same_text}
use Rattle.mime_tree.specs.declared.lists.BodyLists.{BodyLists}
use Rattle.mime_tree.specs.declared.part.Part.{Part, out-Part}
use Rattle.mime_tree.specs.declared.roles.Walk.{Walk}
use Rattle.mime_tree.specs.Parts.{children, part_number}
use Rattle.mime_tree.specs.SameTrees.{AllSame, SamePart, NoPart, Same}
use Rattle.mime_tree.specs.Roles as roles
use Rattle.mime_tree.specs.BodyLists as body
use Rattle.mime_tree.specs.Roles.{leaf_number, is_downloadable, is_inline, is_alternative, media}
use Rattle.mime_tree.specs.BodyLists.{PartLists, meeting, start, AreBodyLists, nothing, both, wanted_part, or_else, shared, leaf_lists, into, next, spread, Walks, End, Multi, Leaf}
use Rattle.mime_tree.proofs.OneWalk.{ends, lists_eq}

-- ---- what the walk sees of a part

pub record Twin (p q : Part) : Type 0 where
  pub number : part_number p ≡ part_number q
  pub media : media p ≡ media q
  pub disposition : (out-Part p).disposition ≡ (out-Part q).disposition
  pub name : (out-Part p).name ≡ (out-Part q).name

is_disposed_twin : {p q : Part} (word : List ℕ) → Twin p q → roles.is_disposed p word ≡ roles.is_disposed q word
is_disposed_twin word t = ap (λ (d : Option (List ℕ)). option_map_or (λ (x : List ℕ). is_same_text x word) d false) t.disposition

is_plain_twin : {p q : Part} → Twin p q → roles.is_plain_part p ≡ roles.is_plain_part q
is_plain_twin t = ap (λ (m : List ℕ). is_same_text m (codes "text/plain")) t.media

is_html_twin : {p q : Part} → Twin p q → roles.is_html p ≡ roles.is_html q
is_html_twin t = ap (λ (m : List ℕ). is_same_text m (codes "text/html")) t.media

is_media_twin : {p q : Part} → Twin p q → roles.is_media_part p ≡ roles.is_media_part q
is_media_twin t = ap (λ (m : List ℕ). roles.is_type m (codes "image") || roles.is_type m (codes "audio") || roles.is_type m (codes "video")) t.media

is_downloadable_twin : {p q : Part} → Twin p q → is_downloadable p ≡ is_downloadable q
is_downloadable_twin t = ap not (is_disposed_twin (codes "inline") t)

is_inline_twin : {p q : Part} (walk : Walk) → Twin p q → is_inline walk p ≡ is_inline walk q
is_inline_twin walk t =
    let disposed = is_disposed_twin (codes "attachment") t in
    let plain = is_plain_twin t in
    let html = is_html_twin t in
    let medial = is_media_twin t in
    let unnamed = ap roles.is_unnamed t.name in
    λ i. not (disposed i) && ((plain i || html i || medial i) && (walk.first || (not (roles.is_related walk.multipart) && (medial i || unnamed i))))

meeting_twin : {p q : Part} (walk : Walk) → Twin p q → meeting walk p ≡ meeting walk q
meeting_twin walk t =
    let inline = is_inline_twin walk t in
    let plain = is_plain_twin t in
    let html = is_html_twin t in
    λ i. if body.closes walk (inline i) then record walk { text = walk.text && not (html i); html = walk.html && not (plain i) } else walk

into_twin : {p q : Part} (walk : Walk) → Twin p q → into walk p ≡ into walk q
into_twin walk t =
    let many = ap roles.multipart_of t.media in
    λ i. record { multipart = many i; within = walk.within || is_alternative (many i); text = walk.text; html = walk.html; first = true }

-- ---- lists of parts

twins_both : (a b c d : List Part) → AllSame Twin a c → AllSame Twin b d → AllSame Twin (a ++ b) (c ++ d)
twins_both [] b [] d none rest = rest
twins_both [] b (q ∷ c) d none rest = absurd none
twins_both (p ∷ a) b [] d none rest = absurd none
twins_both (p ∷ a) b (q ∷ c) d (twin, twins) rest = (twin, twins_both a b c d twins rest)

twins_or_else : (a b c d : List Part) → AllSame Twin a c → AllSame Twin b d → AllSame Twin (or_else a b) (or_else c d)
twins_or_else [] b [] d none others = others
twins_or_else [] b (q ∷ c) d none others = absurd none
twins_or_else (p ∷ a) b [] d none others = absurd none
twins_or_else (p ∷ a) b (q ∷ c) d twins others = twins

twins_alone : {p q : Part} (wanted : Bool) → Twin p q → AllSame Twin (wanted_part wanted p) (wanted_part wanted q)
twins_alone true t = (t, tt)
twins_alone false t = tt

numbers : (a c : List Part) → AllSame Twin a c → map leaf_number a ≡ map leaf_number c
numbers [] [] none = refl
numbers [] (q ∷ c) none = absurd none
numbers (p ∷ a) [] none = absurd none
numbers (p ∷ a) (q ∷ c) (twin, twins) = let n = ap (λ (o : Option ℕ). unwrap_or o 0) twin.number in let ns = numbers a c twins in λ i. n i ∷ ns i

any_attached : (a c : List Part) → AllSame Twin a c → list_any is_downloadable a ≡ list_any is_downloadable c
any_attached [] [] none = refl
any_attached [] (q ∷ c) none = absurd none
any_attached (p ∷ a) [] none = absurd none
any_attached (p ∷ a) (q ∷ c) (twin, twins) = let one = is_downloadable_twin twin in let others = any_attached a c twins in λ i. one i || others i

-- ---- three lists of parts

pub record Alike (a c : PartLists) : Type 0 where
  pub text : AllSame Twin a.text c.text
  pub html : AllSame Twin a.html c.html
  pub attachments : AllSame Twin a.attachments c.attachments

alike_both : (a b c d : PartLists) → Alike a c → Alike b d → Alike (both a b) (both c d)
alike_both a b c d one other = record {
  text = twins_both a.text b.text c.text d.text one.text other.text;
  html = twins_both a.html b.html c.html d.html one.html other.html;
  attachments = twins_both a.attachments b.attachments c.attachments d.attachments one.attachments other.attachments;
}

alike_shared : (a c : PartLists) → Alike a c → Alike (shared a) (shared c)
alike_shared a c one = record {
  text = twins_or_else a.text a.html c.text c.html one.text one.html;
  html = twins_or_else a.html a.text c.html c.text one.html one.text;
  attachments = one.attachments;
}

alike_if : (b d : Bool) (x y u v : PartLists) → b ≡ d → Alike x u → Alike y v → Alike (if b then x else y) (if d then u else v)
alike_if b d x y u v same chosen otherwise =
    let P : Bool → Type 0 = λ e. Alike (if b then x else y) (if e then u else v) in
    subst P same (elim b as (λ e. Alike (if e then x else y) (if e then u else v)) [ true ↦ chosen | false ↦ otherwise ])

alike_spread : (inner : Walk) (a c : PartLists) → Alike a c → Alike (spread inner a) (spread inner c)
alike_spread inner a c one = alike_if _ _ (shared a) a (shared c) c refl (alike_shared a c one) one

alike_leaf : {p q : Part} (walk : Walk) (inline : Bool) → Twin p q → Alike (body.lists_of walk inline p) (body.lists_of walk inline q)
alike_leaf {p} {q} walk inline t =
    let attached : Alike (body.to_attachments p) (body.to_attachments q) = record { text = tt; html = tt; attachments = (t, tt) } in
    let as_text : Alike (body.to_text p) (body.to_text q) = record { text = (t, tt); html = tt; attachments = tt } in
    let as_html : Alike (body.to_html p) (body.to_html q) = record { text = tt; html = (t, tt); attachments = tt } in
    let too = ap (λ (m : Bool). m && not (walk.text && walk.html)) (is_media_twin t) in
    let P : Bool → Type 0 = λ b. AllSame Twin (wanted_part (roles.is_media_part p && not (walk.text && walk.html)) p) (wanted_part b q) in
    let shown : Alike (body.to_open_lists walk p) (body.to_open_lists walk q) = record {
      text = twins_alone walk.text t;
      html = twins_alone walk.html t;
      attachments = subst P too (twins_alone (roles.is_media_part p && not (walk.text && walk.html)) t);
    } in
    alike_if _ _ _ _ _ _ refl attached
    (alike_if _ _ _ _ _ _ refl
    (alike_if _ _ _ _ _ _ (ap (λ (b : Bool). walk.text && b) (is_plain_twin t)) as_text
    (alike_if _ _ _ _ _ _ (ap (λ (b : Bool). walk.html && b) (is_html_twin t)) as_html attached))
    shown)

-- ---- walks over the same parts

twin_of : {S : Part → Part → Type 0} {p q : Part} → SamePart S p q → Twin p q
twin_of s = record { number = s.number; media = s.media; disposition = s.disposition; name = s.name }

twin : (more : ℕ) (p q : Part) → Same more p q → Twin p q
unfolding Same
twin zero p q s = twin_of s
twin (suc more) p q s = twin_of s

-- one level less, and none below none
pub below : ℕ → ℕ
below zero = zero
below (suc more) = more

no_part : (c d : List Part) → AllSame NoPart c d → AllSame (Same zero) c d
no_part [] [] none = tt
no_part [] (q ∷ d) none = absurd none
no_part (p ∷ c) [] none = absurd none
no_part (p ∷ c) (q ∷ d) (none, rest) = absurd none

-- what stands below parts that are the same is the same
pub same_below : (more : ℕ) (p q : Part) → Same more p q → AllSame (Same (below more)) (children p) (children q)
unfolding Same below
same_below zero p q s = no_part (children p) (children q) s.children
same_below (suc more) p q s = s.children

walks_alike : (more : ℕ) (walk : Walk) (ps qs : List Part) (a c : PartLists) → AllSame (Same more) ps qs → Walks walk ps a → Walks walk qs c → Alike a c
walks_alike more _ _ [] _ c same (End walk) other =
    let P : PartLists → Type 0 = λ l. Alike nothing l in
    subst P (sym (ends walk [] c other)) (record { text = tt; html = tt; attachments = tt })
walks_alike more _ _ (q ∷ qs) _ c same (End walk) other = absurd same
walks_alike more _ _ [] _ c same (Multi walk p ps x kids rest) other = absurd same
walks_alike more _ _ [] _ c same (Leaf walk p ps behind leaf rest) other = absurd same
walks_alike more _ _ (q ∷ qs) _ _ same (Multi walk p ps x kids rest) (Multi _ _ _ y kids' rest') =
    let t = twin more p q same.0 in
    let P : Walk → Type 0 = λ w. Walks w (children q) y.inner in
    let Q : Walk → Type 0 = λ w. Alike (spread (into walk p) x.inner) (spread w y.inner) in
    let one = walks_alike (below more) (into walk p) (children p) (children q) x.inner y.inner (same_below more p q same.0) kids (subst P (sym (into_twin walk t)) kids') in
    alike_both _ _ _ _ (subst Q (into_twin walk t) (alike_spread (into walk p) x.inner y.inner one)) (walks_alike more (next walk) ps qs x.behind y.behind same.1 rest rest')
walks_alike more _ _ (q ∷ qs) _ _ same (Multi walk p ps x kids rest) (Leaf _ _ _ behind' leaf rest') =
    absurd (let e = sym x.no_leaf ∙ ap is_some (twin more p q same.0).number ∙ leaf in cc)
walks_alike more _ _ (q ∷ qs) _ _ same (Leaf walk p ps behind leaf rest) (Multi _ _ _ y kids' rest') =
    absurd (let e = sym leaf ∙ ap is_some (twin more p q same.0).number ∙ y.no_leaf in cc)
walks_alike more _ _ (q ∷ qs) _ _ same (Leaf walk p ps behind leaf rest) (Leaf _ _ _ behind' leaf' rest') =
    let t = twin more p q same.0 in
    let P : Walk → Type 0 = λ w. Walks (next w) qs behind' in
    let Q : Walk → Type 0 = λ w. Alike (leaf_lists walk p) (body.lists_of w (is_inline walk p) q) in
    let R : Bool → Type 0 = λ b. Alike (leaf_lists walk p) (body.lists_of (meeting walk q) b q) in
    let one = subst R (is_inline_twin walk t) (subst Q (meeting_twin walk t) (alike_leaf (meeting walk p) (is_inline walk p) t)) in
    alike_both _ _ _ _ one (walks_alike more (next (meeting walk p)) ps qs behind behind' same.1 rest (subst P (sym (meeting_twin walk t)) rest'))

-- parts that are the same have equal body lists
pub same_lists : (more : ℕ) (p q : Part) (l m : BodyLists) → Same more p q → AreBodyLists l p → AreBodyLists m q → l ≡ m
same_lists more p q l m same i j =
    let alike = walks_alike more start (p ∷ []) (q ∷ []) i.parts j.parts (same, tt) i.walks j.walks in
    lists_eq l m
    (i.text ∙ numbers i.parts.text j.parts.text alike.text ∙ sym j.text)
    (i.html ∙ numbers i.parts.html j.parts.html alike.html ∙ sym j.html)
    (i.attachments ∙ numbers i.parts.attachments j.parts.attachments alike.attachments ∙ sym j.attachments)
    (i.has_attachment ∙ any_attached i.parts.attachments j.parts.attachments alike.attachments ∙ sym j.has_attachment)
