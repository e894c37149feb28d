-- Leaves by their numbers, what lies within the octets, and objects one after another.
use Rattle.std.proofs.Common.{Bor, ◌≡◌, ℕ, zero, suc, ◌+◌, ◌-◌, ◌<◌, true, false, List, [], ◌∷◌, ◌++◌, length, map, take, get_or, refl, sym, ap, ◌∙◌, subst, arith, append_assoc}
use Rattle.std.proofs.Common.{Option, Some, None}
use Rattle.std.specs.Prelude.{slice_get, option_to_list, Contains}
use Rattle.std.proofs.lemmas.List.{append-nil, take_more}
use Rattle.serde_json.specs.Data.{Data, object, Members, no_members}
use Rattle.email_properties.specs.declared.part_property.PartProperty.{PartProperty}
use Rattle.mime_tree.specs.declared.part.Part.{Part}
use Rattle.mime_tree.specs.Parts.{children, IsWithin, Itself, Below}
use Rattle.mime_tree.specs.Roles.{is_leaf, leaf_number}
use Rattle.body_parts.specs.Leaves as leaves
use Rattle.body_parts.specs.Leaves.{AreLeaves}
use Rattle.body_parts.specs.Messages.{MessageData}
use Rattle.body_parts.specs.PartObjects as objects
use Rattle.body_parts.specs.PartObjects.{AreObjects, PutsProperties, with_sub_parts}
use Rattle.body_parts.specs.reading.LeafLists.{parts_of, parts_at, part_at, Gathers, IsAllWithin, AreAllWithin}
use Rattle.body_parts.proofs.LeafLemmas.{AreFrom, AllIn, place}

-- ---- gathering

-- with one reference more, its part is one more
pub parts_more : (refs : List (Bor Part)) (r : Bor Part) → parts_of (refs ++ r ∷ []) ≡ parts_of refs ++ r.now ∷ []
parts_more [] r = refl
parts_more (x ∷ refs) r = ap (λ (u : List Part). x.now ∷ u) (parts_more refs r)

leaves_both : (ps qs ls ms : List Part) → AreLeaves ps ls → AreLeaves qs ms → AreLeaves (ps ++ qs) (ls ++ ms)
leaves_both _ qs _ ms leaves.End more = more
leaves_both _ qs _ ms (leaves.Leaf p ps behind leaf rest) more = leaves.Leaf p (ps ++ qs) (behind ++ ms) leaf (leaves_both ps qs behind ms rest more)
leaves_both _ qs _ ms (leaves.Multi p ps x kids rest) more =
    subst (λ (u : List Part). AreLeaves (p ∷ (ps ++ qs)) u) (sym (append_assoc x.inner x.behind ms))
    (leaves.Multi p (ps ++ qs) (record { no_leaf = x.no_leaf; inner = x.inner; behind = x.behind ++ ms }) kids (leaves_both ps qs x.behind ms rest more))

-- of no parts nothing is gathered
pub gathers_none : (g : List Part) → Gathers [] g g
gathers_none g = ([], leaves.End, sym (append-nil g))

-- of a leaf the leaf itself is gathered
pub gathers_leaf : (p : Part) (before after : List Part) → is_leaf p ≡ true → after ≡ before ++ p ∷ [] → Gathers (p ∷ []) before after
gathers_leaf p before after leaf e = (p ∷ [], leaves.Leaf p [] [] leaf leaves.End, e)

-- of a multipart the leaves of the parts in it are gathered
pub gathers_multi : (p : Part) (before after : List Part) → is_leaf p ≡ false → Gathers (children p) before after → Gathers (p ∷ []) before after
gathers_multi p before after no_leaf (ls, are, e) =
    (ls, subst (λ (u : List Part). AreLeaves (p ∷ []) u) (append-nil ls) (leaves.Multi p [] (record { no_leaf = no_leaf; inner = ls; behind = [] }) are leaves.End), e)

-- the leaves of one part more are gathered after those of the parts before it
pub gathers_more : (ps : List Part) (i : ℕ) (d : Part) (before mid after : List Part) → i < length ps → Gathers (take i ps) before mid → Gathers (get_or ps i d ∷ []) mid after
    → Gathers (take (i + 1) ps) before after
gathers_more ps i d before mid after lt (ls, are, e) (ms, are', e') =
    subst (λ (u : List Part). Gathers u before after) (sym (take_more ps i d lt))
    (ls ++ ms, leaves_both (take i ps) (get_or ps i d ∷ []) ls ms are are', e' ∙ ap (λ (u : List Part). u ++ ms) e ∙ append_assoc before ls ms)

-- ---- within the octets

-- a part lies within the octets where it does with what stands under it
pub itself_within : (b : List ℕ) (p : Part) → IsAllWithin b p → IsWithin p b
itself_within b p h = h p Itself

within_both : (b : List ℕ) (ps qs : List Part) → AreAllWithin b ps → AreAllWithin b qs → AreAllWithin b (ps ++ qs)
within_both b [] qs g h = h
within_both b (p ∷ ps) qs g h = (g.0, within_both b ps qs g.1 h)

-- the parts in a part lie within the octets as it does
pub children_within : (b : List ℕ) (p : Part) → IsAllWithin b p → AreAllWithin b (children p)
children_within b p h = by (children p) (λ c i. i)
  where
    by : (cs : List Part) → ((c : Part) → Contains cs c → Contains (children p) c) → AreAllWithin b cs
    by [] i = tt
    by (c ∷ cs) i = (λ q u. h q (Below p c (i c (0, omega arith, refl)) u), by cs (λ x (k, lt, e). i x (suc k, omega arith, e)))

leaves_within : (b : List ℕ) (ps ls : List Part) → AreLeaves ps ls → AreAllWithin b ps → AreAllWithin b ls
leaves_within b _ _ leaves.End h = tt
leaves_within b _ _ (leaves.Leaf p ps behind leaf rest) h = (h.0, leaves_within b ps behind rest h.1)
leaves_within b _ _ (leaves.Multi p ps l kids rest) h =
    within_both b l.inner l.behind (leaves_within b (children p) l.inner kids (children_within b p h.0)) (leaves_within b ps l.behind rest h.1)

-- where a tree lies within the octets, its leaves do
pub message_within : (b : List ℕ) (root : Part) (ls : List Part) → AreLeaves (root ∷ []) ls → IsAllWithin b root → AreAllWithin b ls
message_within b root ls a h = leaves_within b (root ∷ []) ls a (h, tt)

-- where all parts lie within the octets, the one at a place does
pub within_at : (b : List ℕ) (ps : List Part) (i : ℕ) (d : Part) → AreAllWithin b ps → i < length ps → IsAllWithin b (get_or ps i d)
within_at b [] i d h lt = absurd (omega arith)
within_at b (p ∷ ps) zero d h lt = h.0
within_at b (p ∷ ps) (suc i) d h lt = within_at b ps i d h.1 (omega arith)

pub within_there : (b : List ℕ) (ls : List Part) (k : ℕ) (p : Part) → AreAllWithin b ls → slice_get ls k ≡ Some p → IsAllWithin b p
within_there b [] k p h e = absurd cc
within_there b (q ∷ ls) zero p h e = let same : q ≡ p = cc in subst (λ (x : Part). IsAllWithin b x) same h.0
within_there b (q ∷ ls) (suc k) p h e = within_there b ls k p h.1 e

-- and so does the one of a reference
pub within_ref : (b : List ℕ) (refs : List (Bor Part)) (i : ℕ) (r : Bor Part) → AreAllWithin b (parts_of refs) → i < length refs → IsAllWithin b (get_or refs i r).now
within_ref b [] i r h lt = absurd (omega arith)
within_ref b (x ∷ refs) zero r h lt = h.0
within_ref b (x ∷ refs) (suc i) r h lt = within_ref b refs i r h.1 (omega arith)

-- the part at a place is that of the reference there
pub there_ref : (refs : List (Bor Part)) (i : ℕ) (r : Bor Part) (p : Part) → i < length refs → get_or (parts_of refs) i p ≡ (get_or refs i r).now
there_ref [] i r p lt = absurd (omega arith)
there_ref (x ∷ refs) zero r p lt = refl
there_ref (x ∷ refs) (suc i) r p lt = there_ref refs i r p (omega arith)

-- ---- by numbers

there : (ls : List Part) (n : ℕ) → AreFrom 1 ls n → (p : Part) → AllIn (p ∷ []) ls → part_at ls (leaf_number p) ≡ Some p
there ls n f p i =
    let w = place 1 ls n f p i.0 in
    let at : leaf_number p - 1 ≡ w.at = omega (arith, w.number) in
    ap (slice_get ls) at ∙ w.there

-- the leaves of the numbers of these leaves are these
pub named : (ls : List Part) (n : ℕ) → AreFrom 1 ls n → (ps : List Part) → AllIn ps ls → parts_at ls (map leaf_number ps) ≡ ps
named ls n f [] h = refl
named ls n f (p ∷ ps) h =
    ap (λ (o : Option Part). option_to_list o ++ parts_at ls (map leaf_number ps)) (there ls n f p (h.0, tt)) ∙ ap (λ (u : List Part). p ∷ u) (named ls n f ps h.1)

at_both : (ls : List Part) (ms ns : List ℕ) → parts_at ls (ms ++ ns) ≡ parts_at ls ms ++ parts_at ls ns
at_both ls [] ns = refl
at_both ls (m ∷ ms) ns = ap (λ (u : List Part). option_to_list (part_at ls m) ++ u) (at_both ls ms ns)
    ∙ sym (append_assoc (option_to_list (part_at ls m)) (parts_at ls ms) (parts_at ls ns))

at_more : (ls : List Part) (ns : List ℕ) (i : ℕ) (o : Option Part) → i < length ns → part_at ls (get_or ns i 0) ≡ o
    → parts_at ls (take (i + 1) ns) ≡ parts_at ls (take i ns) ++ option_to_list o
at_more ls ns i o lt e =
    ap (parts_at ls) (take_more ns i 0 lt) ∙ at_both ls (take i ns) (get_or ns i 0 ∷ [])
    ∙ ap (λ (u : List Part). parts_at ls (take i ns) ++ u) (append-nil (option_to_list (part_at ls (get_or ns i 0))) ∙ ap option_to_list e)

-- ---- objects

module _ (m : MessageData) (asked : List PartProperty) where
  -- the objects of some parts and then those of others are the objects of both in turn
  pub objects_both : (ps qs : List Part) (ds es : List Data) → AreObjects m asked ps ds → AreObjects m asked qs es → AreObjects m asked (ps ++ qs) (ds ++ es)
  objects_both _ qs _ es objects.End more = more
  objects_both _ qs _ es (objects.Leaf p ps behind own leaf rest) more = objects.Leaf p (ps ++ qs) (behind ++ es) own leaf (objects_both ps qs behind es rest more)
  objects_both _ qs _ es (objects.Multi p ps behind x kids rest) more = objects.Multi p (ps ++ qs) (behind ++ es) x kids (objects_both ps qs behind es rest more)

  -- no parts have no objects
  pub no_objects : (ds : List Data) → ds ≡ [] → AreObjects m asked [] ds
  no_objects ds e = subst (λ (u : List Data). AreObjects m asked [] u) (sym e) objects.End

  -- the object of a leaf
  pub leaf_object : (p : Part) (ms : Members) (d : Data) → is_leaf p ≡ true → PutsProperties m p asked no_members ms → d ≡ object ms → AreObjects m asked (p ∷ []) (d ∷ [])
  leaf_object p ms d leaf puts is =
      subst (λ (u : Data). AreObjects m asked (p ∷ []) (u ∷ [])) (sym is) (objects.Leaf p [] [] (record { members = ms; are = puts }) leaf objects.End)

  -- that of a multipart
  pub multi_object : (p : Part) (ms : Members) (inner : List Data) (d : Data) → is_leaf p ≡ false → PutsProperties m p asked no_members ms → AreObjects m asked (children p) inner
      → d ≡ object (with_sub_parts inner ms) → AreObjects m asked (p ∷ []) (d ∷ [])
  multi_object p ms inner d no_leaf puts kids is =
      subst (λ (u : Data). AreObjects m asked (p ∷ []) (u ∷ [])) (sym is) (objects.Multi p [] []
      (record { no_leaf = no_leaf; own = record { members = ms; are = puts }; inner = inner }) kids objects.End)

  -- with one part more, its object is one more
  pub objects_next : (ps : List Part) (i : ℕ) (p : Part) (ds : List Data) (d : Data) (after : List Data) → i < length ps → AreObjects m asked (take i ps) ds
      → AreObjects m asked (get_or ps i p ∷ []) (d ∷ []) → after ≡ ds ++ d ∷ [] → AreObjects m asked (take (i + 1) ps) after
  objects_next ps i p ds d after lt all one is =
      subst (λ (u : List Data). AreObjects m asked (take (i + 1) ps) u) (sym is)
      (subst (λ (u : List Part). AreObjects m asked u (ds ++ d ∷ [])) (sym (take_more ps i p lt)) (objects_both (take i ps) (get_or ps i p ∷ []) ds (d ∷ []) all one))

  -- where a number more has a leaf, the leaf's object is one more
  pub objects_more : (ls : List Part) (ns : List ℕ) (i : ℕ) (p : Part) (ds : List Data) (d : Data) → i < length ns → part_at ls (get_or ns i 0) ≡ Some p
      → AreObjects m asked (parts_at ls (take i ns)) ds → AreObjects m asked (p ∷ []) (d ∷ []) → AreObjects m asked (parts_at ls (take (i + 1) ns)) (ds ++ d ∷ [])
  objects_more ls ns i p ds d lt e all one =
      subst (λ (ps : List Part). AreObjects m asked ps (ds ++ d ∷ [])) (sym (at_more ls ns i (Some p) lt e)) (objects_both (parts_at ls (take i ns)) (p ∷ []) ds (d ∷ []) all one)

  -- where a number more has no leaf, the objects stay the same
  pub objects_same : (ls : List Part) (ns : List ℕ) (i : ℕ) (ds : List Data) → i < length ns → part_at ls (get_or ns i 0) ≡ None
      → AreObjects m asked (parts_at ls (take i ns)) ds → AreObjects m asked (parts_at ls (take (i + 1) ns)) ds
  objects_same ls ns i ds lt e all =
      subst (λ (ps : List Part). AreObjects m asked ps ds) (sym (at_more ls ns i None lt e ∙ append-nil (parts_at ls (take i ns)))) all
