-- Blocks of lines, fields, and the walk over them.
use Rattle.std.proofs.Common.{◌≡◌, ◌≢◌, ℕ, zero, suc, ◌+◌, ◌-◌, ◌<◌, ◌≤◌, Bool, true, false, ◌&&◌, inl, inr, List, [], ◌∷◌, ◌++◌, length, take, drop, get_or, cond, refl, sym, ap}
use Rattle.std.proofs.Common.{◌∙◌, subst, Option, Some, None, eqb, arith}
use Rattle.std.specs.List.{flat_map}
use Rattle.std.proofs.lemmas.Bool.{cond-true, cond-false}
use Rattle.std.proofs.lemmas.Grind.{flat_map-append}
use Rattle.std.proofs.lemmas.List.{append-nil, append_cancel_left, length-append, take_at, drop_at, drop_more, take-append-drop, map-append, get_or_default}
use Rattle.text_words.specs.Cuts.{Each, IsRun, Stops, front, back}
use Rattle.text_words.specs.LineEnds.{IsLineEnd, Lf, CrLf, begins_with_lf, line_end_len}
use Rattle.text_words.specs.Octets.{is_blank, is_same_text}
use Rattle.text_words.specs.Sequence.{SameStart, IsDetermined}
use Rattle.text_words.proofs.CutLemmas.{front_is, back_is, front_back, front_each}
use Rattle.text_words.proofs.LineEndLemmas.{end_len, end_some, end_found}
use Rattle.text_words.proofs.SequenceLemmas.{Behind, begins, one_more, all_done, one_reading}
use Rattle.mail_header.specs.Lines.{without_end}
use Rattle.mail_header.specs.Fields.{is_name, IsField, ends_block, IsBlock, Part, AField, Other, Body, IsPart, ThisField, OtherLines, ThisBody, NameAndRaw, field_in, body_in}
use Rattle.mail_header.specs.Fields.{field_view, fields_view, IsHeader, later_or, last_named, IsLastField}
use Rattle.mail_header.specs.declared.header.Field.{Field}
use Rattle.mail_header.specs.reading.HeaderLines.{block_len, EndsHeader, IsBlockAt, LaterField, AddsField, Added, Passed}

-- ---- blocks

chosen_one : (q : Bool) → cond {A = ℕ} q 1 1 ≡ 1
chosen_one true = refl
chosen_one false = refl

-- where a text begins with a block, as many octets are counted as the block has
pub block_counted : (x s : List ℕ) → IsBlock x s → block_len (x ++ s) ≡ length x
block_counted [] s b = absurd b
block_counted (c ∷ []) s (inl e) = cond-true (ends_block c s) _ _ e
block_counted (c ∷ []) s (inr e) = ap (λ (u : List ℕ). block_len (c ∷ u)) e ∙ chosen_one (ends_block c [])
block_counted (c ∷ d ∷ x) s b = cond-false (ends_block c ((d ∷ x) ++ s)) _ _ b.0 ∙ ap (λ (n : ℕ). suc n) (block_counted (d ∷ x) s b.1)

pub record BlockAt (t : List ℕ) : Type 0 where
  pub unit : List ℕ
  pub rest : List ℕ
  pub whole : t ≡ unit ++ rest
  pub is : IsBlock unit rest
  pub counted : block_len t ≡ length unit

longer : (c d : ℕ) (t : List ℕ) → ends_block c (d ∷ t) ≡ false → BlockAt (d ∷ t) → BlockAt (c ∷ d ∷ t)
longer c d t e b = by b.unit b.rest b.whole b.is b.counted
  where
    by : (x s : List ℕ) → d ∷ t ≡ x ++ s → IsBlock x s → block_len (d ∷ t) ≡ length x → BlockAt (c ∷ d ∷ t)
    by [] s w i n = absurd i
    by (a ∷ x) s w i n = record {
      unit = c ∷ a ∷ x;
      rest = s;
      whole = ap (λ (u : List ℕ). c ∷ u) w;
      is = (ap (ends_block c) (sym w) ∙ e, i);
      counted = cond-false (ends_block c (d ∷ t)) _ _ e ∙ ap (λ (k : ℕ). suc k) n;
    }

-- a text that isn't empty begins with a block, and as many octets are counted as the block has
pub block_at : (c : ℕ) (t : List ℕ) → BlockAt (c ∷ t)
block_at c [] = record { unit = c ∷ []; rest = []; whole = refl; is = inr refl; counted = chosen_one (ends_block c []) }
block_at c (d ∷ t) = by (ends_block c (d ∷ t)) refl (block_at d t)
  where
    by : (q : Bool) → ends_block c (d ∷ t) ≡ q → BlockAt (d ∷ t) → BlockAt (c ∷ d ∷ t)
    by true e b = record { unit = c ∷ []; rest = d ∷ t; whole = refl; is = inl e; counted = cond-true (ends_block c (d ∷ t)) _ _ e }
    by false e b = longer c d t e b

same_block : (x y s t : List ℕ) → x ++ s ≡ y ++ t → IsBlock x s → IsBlock y t → x ≡ y
same_block x y s t e i j =
    let n : length x ≡ length y = sym (block_counted x s i) ∙ ap block_len e ∙ block_counted y t j in
    sym (take_at x s (length x) refl) ∙ ap (take (length x)) e ∙ take_at y t (length x) (sym n)

-- ---- fields

pub record SameField (n m r s : List ℕ) : Type 0 where
  pub name : n ≡ m
  pub raw : r ≡ s

blank_no_name : (c : ℕ) → is_blank c ≡ true → is_name c ≡ false
blank_no_name c e = grind arith

stops_name : (b v : List ℕ) → Each is_blank b → Stops is_name (b ++ 58 ∷ v)
stops_name [] v e = refl
stops_name (c ∷ b) v e = blank_no_name c e.0

-- a field is cut so
pub field_name : (n r b : List ℕ) (f : IsField n r b) → n ≡ front is_name b
field_name n r b f = sym (front_is is_name n (f.blanks ++ 58 ∷ f.value) f.is_named.0 (stops_name f.blanks f.value f.are_blank)) ∙ ap (front is_name) (sym f.whole)

-- after the name of a field and the white space after it stand the colon and the value
pub field_rest : (n r b : List ℕ) (f : IsField n r b) → back is_blank (back is_name b) ≡ 58 ∷ f.value
field_rest n r b f =
    ap (λ (u : List ℕ). back is_blank (back is_name u)) f.whole
    ∙ ap (back is_blank) (back_is is_name n (f.blanks ++ 58 ∷ f.value) f.is_named.0 (stops_name f.blanks f.value f.are_blank))
    ∙ back_is is_blank f.blanks (58 ∷ f.value) f.are_blank refl

-- a block is a field with one name and one raw value at most
pub one_field : (n m r s b : List ℕ) → IsField n r b → IsField m s b → SameField n m r s
one_field n m r s b f g = record {
  name = field_name n r b f ∙ sym (field_name m s b g);
  raw = let e = sym (field_rest n r b f) ∙ field_rest m s b g in let v : f.value ≡ g.value = cc in f.raw_is ∙ ap without_end v ∙ sym g.raw_is;
}

name_no_end : (c : ℕ) (t : List ℕ) → is_name c ≡ true → line_end_len (c ∷ t) ≡ 0
name_no_end c t e =
    cond-false (eqb c 10) 1 (cond {A = ℕ} (eqb c 13 && begins_with_lf t) 2 0) (no_lf c e)
    ∙ cond-false (eqb c 13 && begins_with_lf t) 2 0 (ap (λ (q : Bool). q && begins_with_lf t) (no_cr c e))
  where
    no_lf : (c : ℕ) → is_name c ≡ true → eqb c 10 ≡ false
    no_lf c e = grind arith

    no_cr : (c : ℕ) → is_name c ≡ true → eqb c 13 ≡ false
    no_cr c e = grind arith

-- a field's line isn't empty
field_no_end : (n r b s : List ℕ) → IsField n r b → line_end_len (b ++ s) ≡ 0
field_no_end n r b s f = ap (λ (u : List ℕ). line_end_len (u ++ s)) f.whole ∙ by n f.is_named
  where
    by : (n : List ℕ) → IsRun is_name n → line_end_len ((n ++ (f.blanks ++ 58 ∷ f.value)) ++ s) ≡ 0
    by [] k = absurd (k.1 refl)
    by (c ∷ n) k = name_no_end c ((n ++ (f.blanks ++ 58 ∷ f.value)) ++ s) k.0.0

-- ---- parts

no_body : (x s e b : List ℕ) → line_end_len (x ++ s) ≡ 0 → x ++ s ≡ (e ++ b) ++ [] → IsLineEnd e → ⊥
no_body x s e b z w i =
    let l = ap line_end_len (w ∙ append-nil (e ++ b)) ∙ end_len e b i in
    let k = end_some e i in
    omega (arith, sym z, l, k.1)

same_body : (e f b c : List ℕ) → (e ++ b) ++ [] ≡ (f ++ c) ++ [] → IsLineEnd e → IsLineEnd f → b ≡ c
same_body e f b c w i j =
    let h : e ++ b ≡ f ++ c = sym (append-nil (e ++ b)) ∙ w ∙ append-nil (f ++ c) in
    let n : length e ≡ length f = sym (end_len e b i) ∙ ap line_end_len h ∙ end_len f c j in
    sym (drop_at e b (length e) refl) ∙ ap (drop (length e)) h ∙ drop_at f c (length e) (sym n)

same_start : (v w : Part) (x y s t : List ℕ) → x ++ s ≡ y ++ t → v ≡ w → x ≡ y → SameStart v w x y s t
same_start v w x y s t e p q = record { value = p; unit = q; rest = append_cancel_left y s t (ap (λ (u : List ℕ). u ++ s) (sym q) ∙ e) }

one_part : (v w : Part) (x y s t : List ℕ) → x ++ s ≡ y ++ t → IsPart v x s → IsPart w y t → SameStart v w x y s t
one_part _ _ x y s t e (ThisField n r _ _ f b) (ThisField m q _ _ g c) =
    let k = same_block x y s t e b c in
    let o = one_field n m r q y (subst (λ (u : List ℕ). IsField n r u) k f) g in
    same_start _ _ x y s t e (ap (λ (u : List ℕ). AField u r) o.name ∙ ap (AField m) o.raw) k
one_part _ _ x y s t e (ThisField n r _ _ f b) (OtherLines _ _ g z c) = absurd (g n r (subst (λ (u : List ℕ). IsField n r u) (same_block x y s t e b c) f))
one_part _ _ x _ s _ e (ThisField n r _ _ f b) (ThisBody h d i) = absurd (no_body x s h d (field_no_end n r x s f) e i)
one_part _ _ x y s t e (OtherLines _ _ g z b) (ThisField n r _ _ f c) = absurd (g n r (subst (λ (u : List ℕ). IsField n r u) (sym (same_block x y s t e b c)) f))
one_part _ _ x y s t e (OtherLines _ _ g z b) (OtherLines _ _ h k c) = same_start _ _ x y s t e refl (same_block x y s t e b c)
one_part _ _ x _ s _ e (OtherLines _ _ g z b) (ThisBody h d i) = absurd (no_body x s h d z e i)
one_part _ _ _ y _ t e (ThisBody h d i) (ThisField n r _ _ f b) = absurd (no_body y t h d (field_no_end n r y t f) (sym e) i)
one_part _ _ _ y _ t e (ThisBody h d i) (OtherLines _ _ g z b) = absurd (no_body y t h d z (sym e) i)
one_part _ _ _ _ _ _ e (ThisBody h d i) (ThisBody k c j) =
    same_start _ _ (h ++ d) (k ++ c) [] [] e (ap Body (same_body h k d c e i j)) (sym (append-nil (h ++ d)) ∙ e ∙ append-nil (k ++ c))

block_some : (x s : List ℕ) → IsBlock x s → x ≢ []
block_some [] s b = absurd b
block_some (c ∷ x) s b = λ e. absurd cc

some_part : (v : Part) (x s : List ℕ) → IsPart v x s → x ≢ []
some_part _ x s (ThisField n r _ _ f b) = block_some x s b
some_part _ x s (OtherLines _ _ g z b) = block_some x s b
some_part _ _ _ (ThisBody _ d Lf) = λ e. absurd cc
some_part _ _ _ (ThisBody _ d CrLf) = λ e. absurd cc

-- a text begins with one part of a message at most: a field, other lines, or the empty line with the body after it
pub part_determined : IsDetermined IsPart
part_determined = record { one = one_part; some = some_part }

-- ---- the walk

-- these fields were read, and rest is left
pub record Walked (fields : List NameAndRaw) (rest b : List ℕ) : Type 0 where
  pub parts : List Part
  pub behind : Behind IsPart parts rest b
  pub fields_are : fields ≡ flat_map field_in parts
  pub no_body : flat_map body_in parts ≡ []
  pub counted : length rest ≤ length b

-- before any part was read, there are no fields, and all octets are left
pub nothing_walked : (b : List ℕ) → Walked [] b b
nothing_walked b = record { parts = []; behind = begins IsPart b; fields_are = refl; no_body = refl; counted = omega arith }

walked_part : (old new : List NameAndRaw) (p : Part) (x s rest b : List ℕ) → Walked old rest b → rest ≡ x ++ s → IsPart p x s → new ≡ old ++ field_in p → body_in p ≡ []
    → Walked new s b
walked_part old new p x s rest b w e i f n = record {
  parts = w.parts ++ p ∷ [];
  behind = one_more part_determined w.parts p x s rest b w.behind e i;
  fields_are = f ∙ ap (λ (u : List NameAndRaw). u ++ field_in p) w.fields_are ∙ ap (λ (u : List NameAndRaw). flat_map field_in w.parts ++ u) (sym (append-nil (field_in p)))
      ∙ sym (flat_map-append field_in w.parts (p ∷ []));
  no_body = flat_map-append body_in w.parts (p ∷ []) ∙ ap (λ (u : List ℕ). u ++ flat_map body_in (p ∷ [])) w.no_body ∙ append-nil (body_in p) ∙ n;
  counted = omega (arith, ap length e, length-append x s, w.counted);
}

-- a block more
pub walked_block : (old new : List NameAndRaw) (rest b block more : List ℕ) → Walked old rest b → rest ≢ [] → line_end_len rest ≡ 0 → block ≡ take (block_len rest) rest
    → more ≡ drop (block_len rest) rest → AddsField block old new → Walked new more b
walked_block old new [] b block more w k z e f a = absurd (k refl)
walked_block old new (c ∷ t) b block more w k z e f a = by new a
  where
    at : BlockAt (c ∷ t)
    at = block_at c t

    unit_is : at.unit ≡ block
    unit_is = sym (e ∙ ap (take (block_len (c ∷ t))) at.whole ∙ take_at at.unit at.rest (block_len (c ∷ t)) (sym at.counted))

    rest_is : at.rest ≡ more
    rest_is = sym (f ∙ ap (drop (block_len (c ∷ t))) at.whole ∙ drop_at at.unit at.rest (block_len (c ∷ t)) (sym at.counted))

    whole : c ∷ t ≡ block ++ more
    whole = at.whole ∙ ap (λ (u : List ℕ). u ++ at.rest) unit_is ∙ ap (λ (u : List ℕ). block ++ u) rest_is

    is_block : IsBlock block more
    is_block = subst (λ (u : List ℕ). IsBlock block u) rest_is (subst (λ (u : List ℕ). IsBlock u at.rest) unit_is at.is)

    by : (new : List NameAndRaw) → AddsField block old new → Walked new more b
    by _ (Added name raw g) = walked_part old _ (AField name raw) block more (c ∷ t) b w whole (ThisField name raw block more g is_block) refl refl
    by _ (Passed g) = walked_part old _ Other block more (c ∷ t) b w whole (OtherLines block more g (ap line_end_len (sym whole) ∙ z) is_block) (sym (append-nil old)) refl

-- the empty line ends the header
pub walked_end : (fields : List NameAndRaw) (rest b : List ℕ) (n : ℕ) → Walked fields rest b → line_end_len rest ≡ n → 0 < n → IsHeader fields (length b - length rest + n) b
walked_end fields rest b zero w e p = absurd (omega arith)
walked_end fields rest b (suc n) w e p =
    let f = end_found rest n e in
    let i = ThisBody f.end f.rest f.is_end in
    let m = one_more part_determined w.parts (Body f.rest) (f.end ++ f.rest) [] rest b w.behind (f.whole ∙ sym (append-nil (f.end ++ f.rest))) i in
    let body : flat_map body_in (w.parts ++ Body f.rest ∷ []) ≡ f.rest = flat_map-append body_in w.parts (Body f.rest ∷ []) ∙ ap (λ (u : List ℕ). u ++ (f.rest ++ [])) w.no_body
    ∙ append-nil f.rest in
    record {
      parts = w.parts ++ Body f.rest ∷ [];
      are = all_done (w.parts ++ Body f.rest ∷ []) [] b m refl;
      fields_are = w.fields_are ∙ sym (flat_map-append field_in w.parts (Body f.rest ∷ []) ∙ append-nil (flat_map field_in w.parts));
      end_is = omega (arith, ap length body, f.counted, ap length f.whole, length-append f.end f.rest, w.counted);
    }

-- where nothing is left, the header has the fields that were read, and ends at the end of the octets
pub walked_all : (fields : List NameAndRaw) (rest b : List ℕ) → Walked fields rest b → rest ≡ [] → IsHeader fields (length b) b
walked_all fields rest b w e = record {
  parts = w.parts;
  are = all_done w.parts rest b w.behind e;
  fields_are = w.fields_are;
  end_is = omega (arith, ap length w.no_body);
}

-- no octets have two headers
pub one_header : (f g : List NameAndRaw) (m n : ℕ) (b : List ℕ) → IsHeader f m b → IsHeader g n b → (f ≡ g) × (m ≡ n)
one_header f g m n b h k =
    let e = one_reading part_determined h.parts k.parts b h.are k.are in
    (h.fields_are ∙ ap (flat_map field_in) e ∙ sym k.fields_are, omega (arith, h.end_is, k.end_is, ap (λ (ps : List Part). length (flat_map body_in ps)) e))

-- a block that is cut so is a field
pub is_field : (b n r v w : List ℕ) → n ≡ front is_name b → r ≡ back is_name b → v ≡ back is_blank r → n ≢ [] → v ≡ 58 ∷ w → IsField n (without_end w) b
is_field b n r v w en er ev some ew = record {
  blanks = front is_blank r;
  value = w;
  whole = front_back is_name b ∙ ap (λ (u : List ℕ). u ++ back is_name b) (sym en)
      ∙ ap (λ (u : List ℕ). n ++ u) (sym er ∙ front_back is_blank r ∙ ap (λ (u : List ℕ). front is_blank r ++ u) (sym ev ∙ ew));
  is_named = (subst (λ (u : List ℕ). Each is_name u) (sym en) (front_each is_name b), some);
  are_blank = front_each is_blank r;
  raw_is = refl;
}

-- ---- the last of a name

-- a field of a name that has no other of that name after it is the last of the name
pub last_found : (name : List ℕ) (fs : List NameAndRaw) (f : NameAndRaw) (gs : List NameAndRaw) → is_same_text f.0 name ≡ true → last_named name gs ≡ None
    → last_named name (fs ++ f ∷ gs) ≡ Some f.1
last_found name [] f gs e n = ap (λ (o : Option (List ℕ)). later_or o (is_same_text f.0 name) f.1) n ∙ cond-true (is_same_text f.0 name) _ _ e
last_found name (g ∷ fs) f gs e n = ap (λ (o : Option (List ℕ)). later_or o (is_same_text g.0 name) g.1) (last_found name fs f gs e n)

-- a field in the list that has the name, where none after it has, is the last of the name
pub last_at : (name : List ℕ) (l : List Field) (i at : ℕ) (f : Field) → i < length l → at ≡ i + 1 → f ≡ get_or l i f → is_same_text f.name.now name ≡ true
    → last_named name (fields_view (drop at l)) ≡ None → last_named name (fields_view l) ≡ Some f.raw.now
last_at name l i at f lt n e h none =
    let w : l ≡ take i l ++ f ∷ drop at l = sym (take-append-drop i l) ∙ ap (λ (u : List Field). take i l ++ u) (drop_more l i f lt)
    ∙ ap (λ (g : Field). take i l ++ g ∷ drop (i + 1) l) (sym e) ∙ ap (λ (k : ℕ). take i l ++ f ∷ drop k l) (sym n) in
    ap (λ (u : List Field). last_named name (fields_view u)) w
    ∙ ap (last_named name) (map-append field_view (take i l) (f ∷ drop at l))
    ∙ last_found name (fields_view (take i l)) (field_view f) (fields_view (drop at l)) h none

-- the field that is read at a place of the list is the last of the name, where it has the name and none after it has
pub last_read : (name : List ℕ) (l : List Field) (i at : ℕ) (d : Field) → i < length l → at ≡ i + 1 → is_same_text (get_or l i d).name.now name ≡ true
    → last_named name (fields_view (drop at l)) ≡ None → last_named name (fields_view l) ≡ Some (get_or l i d).raw.now
last_read name l i at d lt n e none = last_at name l i at (get_or l i d) lt n (get_or_default l i d (get_or l i d) lt) e none

-- a field more after them
pub last_other : (name : List ℕ) (fs : List NameAndRaw) (f : NameAndRaw) → is_same_text f.0 name ≡ false → last_named name (fs ++ f ∷ []) ≡ last_named name fs
last_other name [] f e = cond-false (is_same_text f.0 name) _ _ e
last_other name (g ∷ fs) f e = ap (λ (o : Option (List ℕ)). later_or o (is_same_text g.0 name) g.1) (last_other name fs f e)

-- a field more
pub pushed_view : (old new : List Field) (f : Field) → new ≡ old ++ f ∷ [] → fields_view new ≡ fields_view old ++ field_view f ∷ []
pushed_view old new f e = ap fields_view e ∙ map-append field_view old (f ∷ [])

-- ---- the last field while walking

-- the last field of this name before the rest
pub record LastWalked (name : List ℕ) (found : Option (List ℕ)) (rest b : List ℕ) : Type 0 where
  pub fields : List NameAndRaw
  pub walked : Walked fields rest b
  pub found_is : found ≡ last_named name fields

-- before any part was read, there is no field of the name
pub none_walked : (name b : List ℕ) → LastWalked name None b b
none_walked name b = record { fields = []; walked = nothing_walked b; found_is = refl }

-- where the block at the front of the rest was read, the fields are those with its own, if it is a field, and the rest goes on after it
pub block_walked : (old new : List NameAndRaw) (rest b block more : List ℕ) → Walked old rest b → IsBlockAt rest block more → AddsField block old new → Walked new more b
block_walked old new rest b block more w i a = walked_block old new rest b block more w i.some i.no_end i.block_is i.rest_is a

-- where the next block was read, the last field of the name is its own, if it is a field of that name, or the one found before
pub last_walked : (name : List ℕ) (found new : Option (List ℕ)) (rest b block more : List ℕ) → LastWalked name found rest b → IsBlockAt rest block more
    → LaterField name block found new → LastWalked name new more b
last_walked name found new rest b block more w i l =
    let k = l w.fields w.found_is in
    record { fields = k.0; walked = block_walked w.fields k.0 rest b block more w.walked i k.1; found_is = k.2 }

-- where a header ends before the rest, it has the fields that were read, and ends after the empty line, if there is one
pub walked_done : (fields : List NameAndRaw) (rest b : List ℕ) (n : ℕ) → Walked fields rest b → EndsHeader rest → n ≡ line_end_len rest
    → IsHeader fields (length b - length rest + n) b
walked_done fields rest b n w (inl e) h =
    subst (λ (k : ℕ). IsHeader fields k b) (omega (arith, ap length e, ap line_end_len e, h)) (walked_all fields rest b w e)
walked_done fields rest b n w (inr e) h = walked_end fields rest b n w (sym h) (omega (arith, e, h))

-- where a header ends before the rest, the last field of the name among those read is the last in the header
pub last_done : (name : List ℕ) (found : Option (List ℕ)) (rest b : List ℕ) → LastWalked name found rest b → EndsHeader rest → IsLastField name b found
last_done name found rest b w e = record {
  fields = w.fields;
  end = length b - length rest + line_end_len rest;
  is = walked_done w.fields rest b
      (line_end_len rest) w.walked e refl;
  raw_is = w.found_is;
}
