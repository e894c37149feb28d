-- Elements are found lump by lump, and the addresses of a text element by element.
use Rattle.std.proofs.Common.{◌≡◌, ◌≢◌, inl, inr, ℕ, ◌+◌, ◌<◌, ◌≤◌, Bool, true, false, List, [], ◌∷◌, ◌++◌, length, take, drop, refl, sym, ap, ◌∙◌, subst, arith, append_assoc, take-append-drop, Bor, Option, Some, None, option_to_list, MatchOption}
use Rattle.std.specs.List.{AllZip}
use Rattle.std.proofs.Math.Seq.{take-add}
use Rattle.std.proofs.lemmas.List.{append-nil, append_cancel_right, length-append, length-drop, take_at, drop_at, drop-drop}
use Rattle.text_words.specs.Sequence.{Sequence}
use Rattle.header_tokens.specs.Closings.{IsAngle, IsClosed, BeginsUnclosed, IsLiteral}
use Rattle.header_tokens.specs.Kinds.{first_octet}
use Rattle.header_tokens.specs.reading.ClosingCounts.{TellClosings}
use Rattle.header_tokens.proofs.ClosingLemmas.{tell_end}
use Rattle.header_tokens.specs.Tokens.{IsComment, IsQuoted}
use Rattle.header_addresses.specs.declared.address.Address.{Address}
use Rattle.loose_addresses.specs.Angles.{joined}
use Rattle.loose_addresses.specs.LooseLists.{IsElementRead, AreLoose}
use Rattle.loose_addresses.specs.Lumps.{is_separator, IsWordShape, BeginsLoose, IsLump, Whole, Octet, Separator, AreLumpsBefore, before_first, elements_of}
use Rattle.loose_addresses.specs.reading.ElementSteps.{LumpOf, IsElementBefore, EndsElement, BeginsWithElement, LastElement, NextElement, AreLeft}
use Rattle.loose_addresses.proofs.LumpLemmas.{some_lump}

-- ---- lump by lump

-- what begins with an element at an offset begins so with it and the octets before
abbrev pub ElementOf : ℕ → List ℕ → Type 0
ElementOf at t = (e rest : List ℕ) → IsElementBefore e rest (drop at t) → IsElementBefore (take at t ++ e) rest t

-- at the front nothing stands before
pub element_begins : (t : List ℕ) → ElementOf 0 t
element_begins t = λ e rest h. h

-- a lump is the element's
pub element_more : (at n : ℕ) (t : List ℕ) → ElementOf at t → LumpOf n (drop at t) → ElementOf (at + n) t
element_more at n t h u = λ e rest g.
    let behind : drop (at + n) t ≡ u.rest = sym (drop-drop n at t) ∙ ap (drop n) u.whole ∙ drop_at u.unit u.rest n (sym u.counted) in
    let front : take n (drop at t) ≡ u.unit = ap (take n) u.whole ∙ take_at u.unit u.rest n (sym u.counted) in
    let P : List ℕ → Type 0 = λ x. IsElementBefore e rest x in
    let m = subst P behind g in
    let Q : List ℕ → Type 0 = λ x. IsElementBefore x rest t in
    subst Q (sym (append_assoc (take at t) u.unit e) ∙ ap (λ (x : List ℕ). x ++ e) (ap (λ (x : List ℕ). take at t ++ x) (sym front) ∙ sym (take-add at n t)))
    (h (u.unit ++ e) rest (record {
      lumps = u.unit ∷ m.lumps;
      are = record { unit = u.unit; rest = u.rest; whole = u.whole; is = u.is; more = m.are };
      whole = u.whole ∙ ap (λ (x : List ℕ). u.unit ++ x) m.whole ∙ sym (append_assoc u.unit e rest);
    }))

-- the octets so far are the element, where it ends there
pub element_ends : (at : ℕ) (t : List ℕ) → ElementOf at t → IsElementBefore (take at t) (drop at t) t
element_ends at t h =
    let P : List ℕ → Type 0 = λ x. IsElementBefore x (drop at t) t in
    subst P (append-nil (take at t)) (h [] (drop at t) (record { lumps = []; are = refl; whole = refl }))

pub record Moves (at n : ℕ) (t : List ℕ) : Type 0 where
  pub some : 0 < n
  pub within : at + n ≤ length t

-- a lump lies within the text, and has an octet
pub lump_moves : (at n : ℕ) (t : List ℕ) → at ≤ length t → LumpOf n (drop at t) → Moves at n t
lump_moves at n t le u = record {
  some = positive u.unit (some_lump (Some u.unit) u.unit u.rest u.is) u.counted;
  within = omega (arith, u.counted, ap length u.whole, length-append u.unit u.rest, length-drop at t);
}
  where
    positive : (x : List ℕ) → x ≢ [] → n ≡ length x → 0 < n
    positive [] k h = absurd (k refl)
    positive (c ∷ x) k h = omega (arith, h)

-- a separator ends an element
pub ends_at : (t : List ℕ) → is_separator (first_octet t) ≡ true → EndsElement t
ends_at [] e = tt
ends_at (c ∷ t) e = e

-- so does the end
pub ends_nothing : (t : List ℕ) → t ≡ [] → EndsElement t
ends_nothing t e = let P : List ℕ → Type 0 = λ u. EndsElement u in subst P (sym e) tt

-- an octet that begins nothing that is closed
pub lump_one : (t : List ℕ) → 0 < length t → is_separator (first_octet t) ≡ false → BeginsLoose t → LumpOf 1 t
lump_one [] h p n = absurd (omega arith)
lump_one (c ∷ t) h p n = record { unit = c ∷ []; rest = t; whole = refl; is = Octet c t p n; counted = refl }

-- what is closed
pub lump_closed : (t x rest : List ℕ) → IsClosed x → t ≡ x ++ rest → LumpOf (length x) t
lump_closed t x rest i e = record { unit = x; rest = rest; whole = e; is = Whole x rest (inl i); counted = refl }

-- an encoded word
pub lump_word : (t x rest : List ℕ) → IsWordShape x → t ≡ x ++ rest → LumpOf (length x) t
lump_word t x rest i e = record { unit = x; rest = rest; whole = e; is = Whole x rest (inr i); counted = refl }

-- what begins with neither
pub begins_loose : (t : List ℕ) → BeginsUnclosed t → ((x y : List ℕ) → IsWordShape x → t ≢ x ++ y) → BeginsLoose t
begins_loose t u n x y (inl i) = u x y i
begins_loose t u n x y (inr i) = n x y i

-- what begins with none of the four begins with nothing that is closed
pub none_closed : (t : List ℕ) → ((x y : List ℕ) → IsComment x → t ≢ x ++ y) → ((x y : List ℕ) → IsQuoted x → t ≢ x ++ y)
    → ((x y : List ℕ) → IsLiteral x → t ≢ x ++ y) → ((x y : List ℕ) → IsAngle x → t ≢ x ++ y) → BeginsUnclosed t
none_closed t c q l a x y (inl i) = q x y i
none_closed t c q l a x y (inr (inl i)) = c x y i
none_closed t c q l a x y (inr (inr (inl i))) = l x y i
none_closed t c q l a x y (inr (inr (inr i))) = a x y i

-- an element, a separator, and what follows it
pub next_here : (t element more : List ℕ) (c n : ℕ) → element ≡ take n t → drop n t ≡ c ∷ more → IsElementBefore (take n t) (drop n t) t → EndsElement (drop n t)
    → BeginsWithElement element (Some more) t
next_here t element more c n e f h k =
    let P : List ℕ → Type 0 = λ u. EndsElement u in
    let Q : List ℕ → Type 0 = λ u. IsElementBefore u (c ∷ more) t in
    let R : List ℕ → Type 0 = λ u. IsElementBefore (take n t) u t in
    NextElement c more t (subst P f k) (subst Q (sym e) (subst R f h))

-- an element that nothing follows
pub last_here : (t element : List ℕ) (n : ℕ) → element ≡ take n t → drop n t ≡ [] → IsElementBefore (take n t) (drop n t) t → BeginsWithElement element None t
last_here t element n e f h =
    let Q : List ℕ → Type 0 = λ u. IsElementBefore u [] t in
    let R : List ℕ → Type 0 = λ u. IsElementBefore (take n t) u t in
    LastElement t (subst Q (sym e) (subst R f h))

-- the closings of a text tell those of what follows an element and a separator
pub tell_next : (closed : List Bool) (text more : List ℕ) (c n : ℕ) → drop n text ≡ c ∷ more → TellClosings closed text → TellClosings closed more
tell_next closed text more c n f h =
    tell_end closed (take n text ++ c ∷ []) more text
    (sym (take-append-drop n text) ∙ ap (λ (u : List ℕ). take n text ++ u) f ∙ sym (append_assoc (take n text) (c ∷ []) more)) h

-- ---- element by element

all_some : List (List ℕ) → List (Option (List ℕ))
all_some [] = []
all_some (u ∷ us) = Some u ∷ all_some us

last_lumps : (us : List (List ℕ)) (t : List ℕ) → AreLumpsBefore us [] t → Sequence IsLump (all_some us) t
unfolding all_some
last_lumps [] t h = h
last_lumps (u ∷ us) t h = record { unit = h.unit; rest = h.rest; whole = h.whole; is = h.is; more = last_lumps us h.rest h.more }

next_lumps : (us : List (List ℕ)) (c : ℕ) (more t : List ℕ) (ls : List (Option (List ℕ))) → is_separator c ≡ true → AreLumpsBefore us (c ∷ more) t → Sequence IsLump ls more
    → Sequence IsLump (all_some us ++ None ∷ ls) t
unfolding all_some
next_lumps [] c more t ls s h g = record { unit = c ∷ []; rest = more; whole = h; is = Separator c more s; more = g }
next_lumps (u ∷ us) c more t ls s h g = record { unit = h.unit; rest = h.rest; whole = h.whole; is = h.is; more = next_lumps us c more h.rest ls s h.more g }

last_elements : (us : List (List ℕ)) → elements_of (all_some us) ≡ joined us ∷ []
unfolding all_some
last_elements [] = refl
last_elements (u ∷ us) = ap (before_first u) (last_elements us)

next_elements : (us : List (List ℕ)) (ls : List (Option (List ℕ))) → elements_of (all_some us ++ None ∷ ls) ≡ joined us ∷ elements_of ls
unfolding all_some
next_elements [] ls = refl
next_elements (u ∷ us) ls = ap (before_first u) (next_elements us ls)

lump_unit : (v : Option (List ℕ)) (x s u : List ℕ) → IsLump v x s → v ≡ Some u → u ≡ x
lump_unit _ _ s u (Whole x _ f) e = cc
lump_unit _ _ s u (Octet c _ n m) e = cc
lump_unit _ _ s u (Separator c _ n) e = absurd cc

-- they are the text before what follows
pub lumps_text : (us : List (List ℕ)) (rest t : List ℕ) → AreLumpsBefore us rest t → t ≡ joined us ++ rest
lumps_text [] rest t h = h
lumps_text (u ∷ us) rest t h =
    h.whole ∙ ap (λ (x : List ℕ). x ++ h.rest) (sym (lump_unit (Some u) h.unit h.rest u h.is refl)) ∙ ap (λ (x : List ℕ). u ++ x) (lumps_text us rest h.rest h.more)
    ∙ sym (append_assoc u (joined us) rest)

element_is : (e rest t : List ℕ) (b : IsElementBefore e rest t) → joined b.lumps ≡ e
element_is e rest t b = append_cancel_right (joined b.lumps) e rest (sym (lumps_text b.lumps rest t b.are) ∙ b.whole)

-- the addresses of a text are what its first element reads as, and those of what is left
pub loose_step : (e t : List ℕ) (more : Option (List ℕ)) (a : Option Address) (left : List Address) → BeginsWithElement e more t → IsElementRead e a → AreLeft left more
    → AreLoose (option_to_list a ++ left) t
loose_step e _ _ a left (LastElement t b) r l = record {
  lumps = all_some b.lumps;
  are = last_lumps b.lumps t b.are;
  read = a ∷ [];
  each = subst (λ (u : List (List ℕ)). AllZip IsElementRead u (a ∷ [])) (sym (last_elements b.lumps ∙ ap (λ (u : List ℕ). u ∷ []) (element_is e [] t b))) (r, tt);
  addresses_are = ap (λ (u : List Address). option_to_list a ++ u) l;
}
loose_step e _ _ a left (NextElement c m t s b) r l = record {
  lumps = all_some b.lumps ++ None ∷ l.lumps;
  are = next_lumps b.lumps c m t l.lumps s b.are l.are;
  read = a ∷ l.read;
  each = subst (λ (u : List (List ℕ)). AllZip IsElementRead u (a ∷ l.read))
      (sym (next_elements b.lumps l.lumps ∙ ap (λ (u : List ℕ). u ∷ elements_of l.lumps) (element_is e (c ∷ m) t b))) (r, l.each);
  addresses_are = ap (λ (u : List Address). option_to_list a ++ u) l.addresses_are;
}

-- what is left, as the code holds it
abbrev pub AreLeftOf : List Address → Option (Bor (List ℕ)) → Type 0
AreLeftOf list None = list ≡ []
AreLeftOf list (Some t) = AreLoose list t.now

-- with the addresses of what is left, these are those of the text
abbrev pub LooseSoFar : List Address → Option (Bor (List ℕ)) → List ℕ → Type 0
LooseSoFar all rest text = (left : List Address) → AreLeftOf left rest → AreLoose (all ++ left) text

-- so one element on
pub so_far_more : (all new : List Address) (text e : List ℕ) (t : Bor (List ℕ)) (more : Option (Bor (List ℕ))) (a : Option Address) → LooseSoFar all (Some t) text
    → MatchOption more (BeginsWithElement e None t.now) (λ (r : Bor (List ℕ)). BeginsWithElement e (Some r.now) t.now) → IsElementRead e a → new ≡ all ++ option_to_list a
    → LooseSoFar new more text
so_far_more all new text e t more a h b r n = λ left l.
    subst (λ (u : List Address). AreLoose (u ++ left) text) (sym n)
    (subst (λ (u : List Address). AreLoose u text) (sym (append_assoc all (option_to_list a) left)) (h (option_to_list a ++ left) (step more b left l)))
  where
    step : (more : Option (Bor (List ℕ))) → MatchOption more (BeginsWithElement e None t.now) (λ (r : Bor (List ℕ)). BeginsWithElement e (Some r.now) t.now)
        → (left : List Address) → AreLeftOf left more → AreLoose (option_to_list a ++ left) t.now
    step None b left l = loose_step e t.now None a left b r l
    step (Some q) b left l = loose_step e t.now (Some q.now) a left b r l

-- where nothing is left, they are the text's
pub all_read : (all : List Address) (rest : Option (Bor (List ℕ))) (text : List ℕ) → LooseSoFar all rest text → rest ≡ None → AreLoose all text
all_read all rest text h e =
    subst (λ (u : List Address). AreLoose u text) (append-nil all) (subst (λ (r : Option (Bor (List ℕ))). LooseSoFar all r text) e h [] refl)

-- how long what is left is
abbrev pub left_len : Option (Bor (List ℕ)) → ℕ
left_len None = 0
left_len (Some t) = length t.now + 1
