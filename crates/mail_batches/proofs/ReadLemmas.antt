-- Items are read one after the other.
use Rattle.std.proofs.Common.{◌≡◌, ◌≢◌, ◌+◌, ◌-◌, ◌<◌, ◌≤◌, ℕ, zero, suc, eqb, false, List, [], ◌∷◌, ◌++◌, length, length-append, Option, Some, None, refl, sym, ap, subst, ◌∙◌, append_assoc, arith}
use Rattle.std.specs.List.{flat_map, AllByRecursion}
use Rattle.std.proofs.lemmas.List.{append-nil}
use Rattle.std.proofs.lemmas.List.Concat.{flat_map-cons}
use Rattle.mail_batches.specs.Batches.{IsRight}
use Rattle.mail_batches.specs.Items.{Fits, item_text}
use Rattle.mail_batches.specs.Steps.{Lead, Makes, MayFollow}
use Rattle.mail_batches.specs.Tables.{Tables}
use Rattle.mail_batches.specs.declared.item.Item.{Item}
use Rattle.mail_batches.specs.Reads.{StopsAt, TakesItems, last_item}
use Rattle.mail_batches.specs.reading.Stepping.{IsLast, ReadSoFar, TakesItem}
use Rattle.mail_batches.proofs.Once.{some_octet}

pub none_read : (t : Tables) (octets : List ℕ) → ReadSoFar t octets None t octets
none_read t octets = record { items = []; fit = tt; front = refl; lead = refl; is_last = tt }

flat_map-append : (a b : List Item) → flat_map item_text (a ++ b) ≡ flat_map item_text a ++ flat_map item_text b
flat_map-append [] b = refl
flat_map-append (i ∷ is) b =
    flat_map-cons item_text i (is ++ b) ∙ ap (λ (l : List ℕ). item_text i ++ l) (flat_map-append is b)
    ∙ sym (append_assoc (item_text i) (flat_map item_text is) (flat_map item_text b)) ∙ ap (λ (l : List ℕ). l ++ flat_map item_text b) (sym (flat_map-cons item_text i is))

all_more : (is : List Item) (i : Item) → AllByRecursion Fits is → Fits i → AllByRecursion Fits (is ++ i ∷ [])
all_more [] i all fits = (fits, tt)
all_more (j ∷ is) i all fits = (all.0, all_more is i all.1 fits)

last_more : (is : List Item) (i : Item) → last_item (is ++ i ∷ []) ≡ Some i
last_more [] i = refl
last_more (j ∷ []) i = refl
last_more (j ∷ k ∷ is) i = last_more (k ∷ is) i

abbrev last_or : Option Item → List Item → Option Item
last_or last [] = last
last_or last (i ∷ is) = last_or (Some i) is

last_is : (i : Item) (is : List Item) → last_or (Some i) is ≡ last_item (i ∷ is)
last_is i [] = refl
last_is i (j ∷ is) = last_is j is

last_of : (is : List Item) → last_or None is ≡ last_item is
last_of [] = refl
last_of (i ∷ is) = last_is i is

lead_more : (last : Option Item) (t : Tables) (is : List Item) (i : Item) (mid now : Tables) → Lead last t is mid → MayFollow (last_or last is) i → Makes mid i now
    → Lead last t (is ++ i ∷ []) now
lead_more last t [] i mid now p follows makes = (follows, (now, subst (λ (x : Tables). Makes x i now) p makes, refl))
lead_more last t (j ∷ is) i mid now p follows makes = (p.0, (p.1.0, p.1.1, lead_more (Some j) p.1.0 is i mid now p.1.2 follows makes))

pub read_more : (t : Tables) (octets : List ℕ) (last : Option (ℕ × ℕ)) (mid now : Tables) (place : ℕ × ℕ) (rest more : List ℕ)
    → ReadSoFar t octets last mid rest → TakesItem mid last rest now place more → ReadSoFar t octets (Some place) now more
read_more t octets last mid now place rest more r x = record {
  items = r.items ++ x.item ∷ [];
  fit = all_more r.items x.item r.fit x.fits;
  front = r.front ∙ ap (λ (l : List ℕ). flat_map item_text r.items ++ l) x.spelled ∙ sym (append_assoc (flat_map item_text r.items) (item_text x.item) more)
      ∙ ap (λ (l : List ℕ). (flat_map item_text r.items ++ l) ++ more) (sym (append-nil (item_text x.item)) ∙ sym (flat_map-cons item_text x.item []))
      ∙ ap (λ (l : List ℕ). l ++ more) (sym (flat_map-append r.items (x.item ∷ [])));
  lead = lead_more None t r.items x.item mid now r.lead
      (subst (λ (o : Option Item). MayFollow o x.item) (sym (last_of r.items)) (x.follows (last_item r.items) r.is_last)) x.makes;
  is_last = subst (λ (o : Option Item). IsLast (Some place) o) (sym (last_more r.items x.item)) x.is_place;
}

pub read_stop : (t : Tables) (octets : List ℕ) (last : Option (ℕ × ℕ)) (now : Tables) (rest : List ℕ) (at : ℕ) → ReadSoFar t octets last now rest → rest ≢ []
    → ((o : Option Item) → IsLast last o → IsRight o now rest → ⊥) → at + length rest ≡ length octets → StopsAt t octets at
read_stop t octets last now rest at r some wrong len = record {
  items = r.items;
  fit = r.fit;
  rest = rest;
  front = r.front;
  some = some;
  mid = now;
  lead = r.lead;
  wrong = wrong (last_item r.items) r.is_last;
  place = let all = ap (λ (l : List ℕ). length l) r.front in let both = length-append (flat_map item_text r.items) rest in omega (arith, all, both, len);
}

pub read_end : (t : Tables) (octets : List ℕ) (last : Option (ℕ × ℕ)) (now : Tables) → ReadSoFar t octets last now [] → TakesItems t octets now
read_end t octets last now r = record { items = r.items; fit = r.fit; spelled = r.front ∙ append-nil (flat_map item_text r.items); lead = r.lead }

some_length : (xs : List ℕ) → (xs ≡ [] → ⊥) → 0 < length xs
some_length [] some = absurd (some refl)
some_length (x ∷ xs) some = omega arith

pub fewer_left : (t : Tables) (last : Option (ℕ × ℕ)) (rest : List ℕ) (now : Tables) (place : ℕ × ℕ) (more : List ℕ) → TakesItem t last rest now place more → length more < length rest
fewer_left t last rest now place more x =
    let all = ap (λ (l : List ℕ). length l) x.spelled in
    let both = length-append (item_text x.item) more in
    let octets : 0 < length (item_text x.item) = some_length (item_text x.item) (λ none. some_octet x.item [] (append-nil (item_text x.item) ∙ none)) in
    omega (arith, all, both, octets)

-- no more is left than there was
pub left_le : (t : Tables) (octets : List ℕ) (last : Option (ℕ × ℕ)) (now : Tables) (rest : List ℕ) → ReadSoFar t octets last now rest → length rest ≤ length octets
left_le t octets last now rest r =
    let all = ap (λ (l : List ℕ). length l) r.front in
    let both = length-append (flat_map item_text r.items) rest in
    omega (arith, all, both)

-- all is read where nothing is left
pub read_done : (t : Tables) (octets : List ℕ) (last : Option (ℕ × ℕ)) (now : Tables) (rest : List ℕ) → length rest ≡ 0 → ReadSoFar t octets last now rest → TakesItems t octets now
read_done t octets last now [] none r = read_end t octets last now r
read_done t octets last now (c ∷ cs) none r = absurd (omega (arith, none))

-- the next item is wrong where something is left
pub read_wrong : (t : Tables) (octets : List ℕ) (last : Option (ℕ × ℕ)) (now : Tables) (rest : List ℕ) (at : ℕ) → ReadSoFar t octets last now rest → 0 < length rest
    → ((o : Option Item) → IsLast last o → IsRight o now rest → ⊥) → at ≡ length octets - length rest → StopsAt t octets at
read_wrong t octets last now rest at r some wrong is =
    let le = left_le t octets last now rest r in
    read_stop t octets last now rest at r (λ none. no_octets rest some none) wrong (omega (arith, le, is))
  where
    no_octets : (xs : List ℕ) → 0 < length xs → xs ≡ [] → ⊥
    no_octets [] lt e = omega (arith, lt)
    no_octets (x ∷ xs) lt e = cc

-- something is left
pub some_left : (n : ℕ) → eqb n 0 ≡ false → 0 < n
some_left zero e = absurd (cc)
some_left (suc n) e = omega arith
