-- Names of folders are read as what they are.
use Rattle.std.proofs.Common.{◌≡◌, ℕ, ◌+◌, Bool, true, false, ◌||◌, List, [], ◌∷◌, ◌++◌, cond, refl, sym, ap, subst, ◌∙◌, append_assoc, arith, inl, inr}
use Rattle.std.specs.Prelude.{◌==◌}
use Rattle.std.proofs.lemmas.Bool.{cond-true, cond-false, eqb-true, or_parts}
use Rattle.std.proofs.lemmas.List.{append-nil}
use Rattle.imap_types.specs.Octets.{is_text, is_atom}
use Rattle.imap_types.specs.Texts.{Each, plain_octets}
use Rattle.imap_types.specs.Strings.{IsAString, escaped, quoted}
use Rattle.imap_values.specs.Strings.{astring_in}
use Rattle.imap_grammar.proofs.StringReadings.{astring_read}
use Rattle.command_parts.specs.Fields.{fits_octet, IsFolderName}
use Rattle.command_parts.specs.declared.no_command.NoCommand.TheVariants.{NeedMore}
use Rattle.command_parts.specs.declared.lexeme.LexemeStep.{LexemeStep}
use Rattle.command_parts.specs.declared.lexeme.LexemeStep.TheVariants.{Fail, On, End}
use Rattle.command_parts.specs.declared.follow.Follow.{Follow}
use Rattle.command_parts.specs.declared.follow.Follow.TheVariants as follow
use Rattle.command_parts.specs.declared.string.TextPlace.{TextPlace}
use Rattle.command_parts.specs.declared.string.TextPlace.TheVariants as place
use Rattle.command_parts.specs.declared.string.StringText.{StringText}
use Rattle.command_parts.specs.reading.Steps.{read_from}
use Rattle.command_parts.specs.reading.Lexemes.{may_follow, text_on, text_ended, text_advance_at, text_advance}
use Rattle.command_parts.specs.reading.Strings.{text_before, name_at}
use Rattle.command_parts.proofs.Readers.{IsReader, plain_cut}
use Rattle.command_parts.proofs.Chains.{Viewed, viewed, view_reader, same_reader}
use Rattle.command_parts.proofs.Lexing.{Accepts, AcceptsBy, IsPlain, IsAlive, is_fail, lexeme_reader}
use Rattle.command_parts.proofs.Literals.{follow_octet, follows, follow_small, octet_alone}
use Rattle.command_parts.proofs.Stepping.{from_if, at_true, at_false, on_if, go_if}

abbrev text : Follow → TextPlace → ℕ → StringText
text f p e = record { follow = f; place = p; end = e }

abbrev on : Follow → TextPlace → ℕ → LexemeStep StringText
on f p e = On (text f p e)

-- nothing that may follow is an octet of an atom
abbrev pub IsOutside : Follow → Type 0
IsOutside f = (c : ℕ) → may_follow f c ≡ true → is_atom c ≡ false

-- ---- which octets a text has

atom_fits : (c : ℕ) → is_atom c ≡ true → (fits_octet c ≡ true) × ((c == 10) ≡ false)
atom_fits c e = (grind arith, grind arith)

text_fits : (c : ℕ) → is_text c ≡ true → (fits_octet c ≡ true) × ((c == 10) ≡ false)
text_fits c e = (grind arith, grind arith)

sign_fits : (c d : ℕ) → (fits_octet d ≡ true) × ((d == 10) ≡ false) → (c == d) ≡ true → (fits_octet c ≡ true) × ((c == 10) ≡ false)
sign_fits c d h e = (ap fits_octet (eqb-true c d e) ∙ h.0, ap (λ (n : ℕ). n == 10) (eqb-true c d e) ∙ h.1)

special_fits : (c : ℕ) → (c == 34 || c == 92) ≡ true → (fits_octet c ≡ true) × ((c == 10) ≡ false)
special_fits c e = (grind arith, grind arith)

ended_go : (s : StringText) (c : ℕ) → (is_fail (text_ended s c) ≡ true → ⊥) → fits_octet c ≡ true
ended_go s c h = go_if (may_follow s.follow c) (End (record s { end = c })) Fail (λ e k. follow_small s.follow c e) (λ e k. absurd (k refl)) h

ended_on : {P : Type 0} (s p : StringText) (c : ℕ) → text_ended s c ≡ On p → P
ended_on s p c h = on_if (may_follow s.follow c) (End (record s { end = c })) Fail p (λ e k. absurd cc) (λ e k. absurd cc) h

text_small : (s : StringText) (c : ℕ) (p : TextPlace) → s.place ≡ p → (is_fail (text_advance s c) ≡ true → ⊥) → fits_octet c ≡ true
text_small s c p e h = by p (λ k. h (ap (λ (q : TextPlace). is_fail (text_advance_at q s c)) e ∙ k))
  where
    by : (p : TextPlace) → (is_fail (text_advance_at p s c) ≡ true → ⊥) → fits_octet c ≡ true
    by place.Start h = go_if (c == 34) (text_on s place.Quoted) (cond (is_atom c) (text_on s place.Atom) Fail) (λ f k. (sign_fits c 34 (refl, refl) f).0)
        (λ f k. go_if (is_atom c) (text_on s place.Atom) Fail (λ g l. (atom_fits c g).0) (λ g l. absurd (l refl)) k) h
    by place.Atom h = go_if (is_atom c) (text_on s place.Atom) (text_ended s c) (λ f k. (atom_fits c f).0) (λ f k. ended_go s c k) h
    by place.Quoted h = go_if (c == 34) (text_on s place.Closed) (cond (c == 92) (text_on s place.Escaped) (cond (is_text c) (text_on s place.Quoted) Fail))
        (λ f k. (sign_fits c 34 (refl, refl) f).0)
        (λ f k. go_if (c == 92) (text_on s place.Escaped) (cond (is_text c) (text_on s place.Quoted) Fail) (λ g l. (sign_fits c 92 (refl, refl) g).0)
        (λ g l. go_if (is_text c) (text_on s place.Quoted) Fail (λ i m. (text_fits c i).0) (λ i m. absurd (m refl)) l) k) h
    by place.Escaped h = go_if (c == 34 || c == 92) (text_on s place.Quoted) Fail (λ f k. (special_fits c f).0) (λ f k. absurd (k refl)) h
    by place.Closed h = ended_go s c h

text_line : (s q : StringText) (c : ℕ) (p : TextPlace) → s.place ≡ p → text_advance s c ≡ On q → (c == 10) ≡ false
text_line s q c p e h = by p (sym (ap (λ (r : TextPlace). text_advance_at r s c) e) ∙ h)
  where
    by : (p : TextPlace) → text_advance_at p s c ≡ On q → (c == 10) ≡ false
    by place.Start h = on_if (c == 34) (text_on s place.Quoted) (cond (is_atom c) (text_on s place.Atom) Fail) q (λ f k. (sign_fits c 34 (refl, refl) f).1)
        (λ f k. on_if (is_atom c) (text_on s place.Atom) Fail q (λ g l. (atom_fits c g).1) (λ g l. absurd cc) k) h
    by place.Atom h = on_if (is_atom c) (text_on s place.Atom) (text_ended s c) q (λ f k. (atom_fits c f).1) (λ f k. ended_on s q c k) h
    by place.Quoted h = on_if (c == 34) (text_on s place.Closed) (cond (c == 92) (text_on s place.Escaped) (cond (is_text c) (text_on s place.Quoted) Fail)) q
        (λ f k. (sign_fits c 34 (refl, refl) f).1)
        (λ f k. on_if (c == 92) (text_on s place.Escaped) (cond (is_text c) (text_on s place.Quoted) Fail) q (λ g l. (sign_fits c 92 (refl, refl) g).1)
        (λ g l. on_if (is_text c) (text_on s place.Quoted) Fail q (λ i m. (text_fits c i).1) (λ i m. absurd cc) l) k) h
    by place.Escaped h = on_if (c == 34 || c == 92) (text_on s place.Quoted) Fail q (λ f k. (special_fits c f).1) (λ f k. absurd cc) h
    by place.Closed h = ended_on s q c h

text_plain : IsPlain text_advance
text_plain = record { small = λ s c h. text_small s c s.place refl h; on_line = λ s q c h. text_line s q c s.place refl h }

-- ---- back

-- the text is read up to an octet that may follow
abbrev ReadTo : Follow → TextPlace → ℕ → ℕ → List ℕ → Type 0
ReadTo f p e c t = (v : StringText) × Accepts text_advance (text f p e) v t × (v.end ≡ c)

closed_back : (f : Follow) (e c : ℕ) → may_follow f c ≡ true → ReadTo f place.Closed e c (c ∷ [])
closed_back f e c may = (text f place.Closed c, at_true (may_follow f c) (End (text f place.Closed c)) Fail (λ p. ⊥) (text f place.Closed c) [] may (refl, refl), refl)

atom_end : (f : Follow) (e c : ℕ) → may_follow f c ≡ true → is_atom c ≡ false → ReadTo f place.Atom e c (c ∷ [])
atom_end f e c may out = (
  text f place.Atom c,
  at_false (is_atom c) (on f place.Atom e) (text_ended (text f place.Atom e) c) (λ p. ⊥) (text f place.Atom c) [] out
      (at_true (may_follow f c) (End (text f place.Atom c)) Fail (λ p. ⊥) (text f place.Atom c) [] may (refl, refl)),
  refl,
)

atom_back : (x : List ℕ) (f : Follow) (e c : ℕ) → Each is_atom x → may_follow f c ≡ true → is_atom c ≡ false → ReadTo f place.Atom e c (x ++ c ∷ [])
atom_back [] f e c each may out = atom_end f e c may out
atom_back (d ∷ x) f e c each may out =
    let r = atom_back x f e c each.1 may out in
    let t : List ℕ = x ++ c ∷ [] in
    (r.0, at_true (is_atom d) (on f place.Atom e) (text_ended (text f place.Atom e) d) (λ p. Accepts text_advance p r.0 t) r.0 t each.0 r.1, r.2)

quoted_back : (s : List ℕ) (f : Follow) (e c : ℕ) → Each is_text s → may_follow f c ≡ true → ReadTo f place.Quoted e c (escaped s ++ 34 ∷ c ∷ [])
quoted_back [] f e c each may = let r = closed_back f e c may in (r.0, r.1, r.2)
quoted_back (d ∷ s) f e c each may = by (d == 34 || d == 92) refl (quoted_back s f e c each.1 may)
  where
    t : List ℕ
    t = escaped s ++ 34 ∷ c ∷ []

    by : (b : Bool) → (d == 34 || d == 92) ≡ b → ReadTo f place.Quoted e c t → ReadTo f place.Quoted e c (escaped (d ∷ s) ++ 34 ∷ c ∷ [])
    by true g r = subst (λ (u : List ℕ). ReadTo f place.Quoted e c (u ++ 34 ∷ c ∷ [])) (sym (cond-true (d == 34 || d == 92) (92 ∷ d ∷ escaped s) (d ∷ escaped s) g))
        (r.0, at_true (d == 34 || d == 92) (on f place.Quoted e) Fail (λ p. Accepts text_advance p r.0 t) r.0 t g r.1, r.2)
    by false g r =
        let p = or_parts (d == 34) (d == 92) g in
        subst (λ (u : List ℕ). ReadTo f place.Quoted e c (u ++ 34 ∷ c ∷ [])) (sym (cond-false (d == 34 || d == 92) (92 ∷ d ∷ escaped s) (d ∷ escaped s) g)) (
          r.0,
          at_false (d == 34) (on f place.Closed e) (cond (d == 92) (on f place.Escaped e) (cond (is_text d) (on f place.Quoted e) Fail))
              (λ p. Accepts text_advance p r.0 t) r.0 t p.0
              (at_false (d == 92) (on f place.Escaped e) (cond (is_text d) (on f place.Quoted e) Fail) (λ p. Accepts text_advance p r.0 t) r.0 t p.1
              (at_true (is_text d) (on f place.Quoted e) Fail (λ p. Accepts text_advance p r.0 t) r.0 t each.0 r.1)),
          r.2,
        )

no_quote : (c : ℕ) → is_atom c ≡ true → (c == 34) ≡ false
no_quote c e = grind arith

name_back : (s x : List ℕ) (f : Follow) (e c : ℕ) → IsFolderName s x → may_follow f c ≡ true → is_atom c ≡ false → ReadTo f place.Start e c (x ++ c ∷ [])
name_back s [] f e c (inl a) may out = absurd (omega (arith, a.0.1))
name_back s (d ∷ x) f e c (inl a) may out =
    let r = atom_back x f e c a.0.0.1 may out in
    let t : List ℕ = x ++ c ∷ [] in (
      r.0,
      at_false (d == 34) (on f place.Quoted e) (cond (is_atom d) (on f place.Atom e) Fail) (λ p. Accepts text_advance p r.0 t) r.0 t (no_quote d a.0.0.0)
          (at_true (is_atom d) (on f place.Atom e) Fail (λ p. Accepts text_advance p r.0 t) r.0 t a.0.0.0 r.1),
      r.2,
    )
name_back s x f e c (inr q) may out =
    let r = quoted_back s f e c q.0 may in
    let same : 34 ∷ (escaped s ++ 34 ∷ c ∷ []) ≡ x ++ c ∷ [] = ap (λ (u : List ℕ). 34 ∷ u) (sym (append_assoc (escaped s) (34 ∷ []) (c ∷ [])))
    ∙ ap (λ (u : List ℕ). u ++ c ∷ []) (sym q.1) in
    subst (ReadTo f place.Start e c) same (r.0, r.1, r.2)

some_place : (p : TextPlace) (f : Follow) (e : ℕ) → IsOutside f → (t : List ℕ) × ReadTo f p e (follow_octet f) t
some_place place.Start f e out = (34 ∷ 34 ∷ follow_octet f ∷ [], let r = closed_back f e (follow_octet f) (follows f) in (r.0, r.1, r.2))
some_place place.Atom f e out = (follow_octet f ∷ [], atom_end f e (follow_octet f) (follows f) (out (follow_octet f) (follows f)))
some_place place.Quoted f e out = (34 ∷ follow_octet f ∷ [], let r = closed_back f e (follow_octet f) (follows f) in (r.0, r.1, r.2))
some_place place.Escaped f e out = (34 ∷ 34 ∷ follow_octet f ∷ [], let r = closed_back f e (follow_octet f) (follows f) in (r.0, r.1, r.2))
some_place place.Closed f e out = (follow_octet f ∷ [], closed_back f e (follow_octet f) (follows f))

abbrev Within : Follow → StringText → Type 0
Within f s = s.follow ≡ f

text_keeps : (f : Follow) (s q : StringText) (c : ℕ) → Within f s → text_advance s c ≡ On q → Within f q
text_keeps f s q c w h = by s.place refl
  where
    here : {p : TextPlace} → text_on s p ≡ On q → Within f q
    here {p} k = let e : record s { place = p } ≡ q = cc in ap (λ (r : StringText). r.follow) (sym e) ∙ w

    by : (p : TextPlace) → s.place ≡ p → Within f q
    by p e = steps p (sym (ap (λ (r : TextPlace). text_advance_at r s c) e) ∙ h)
      where
        steps : (p : TextPlace) → text_advance_at p s c ≡ On q → Within f q
        steps place.Start h = on_if (c == 34) (text_on s place.Quoted) (cond (is_atom c) (text_on s place.Atom) Fail) q (λ g k. here k)
            (λ g k. on_if (is_atom c) (text_on s place.Atom) Fail q (λ i l. here l) (λ i l. absurd cc) k) h
        steps place.Atom h = on_if (is_atom c) (text_on s place.Atom) (text_ended s c) q (λ g k. here k) (λ g k. ended_on s q c k) h
        steps place.Quoted h = on_if (c == 34) (text_on s place.Closed) (cond (c == 92) (text_on s place.Escaped) (cond (is_text c) (text_on s place.Quoted) Fail)) q
            (λ g k. here k)
            (λ g k. on_if (c == 92) (text_on s place.Escaped) (cond (is_text c) (text_on s place.Quoted) Fail) q (λ i l. here l)
            (λ i l. on_if (is_text c) (text_on s place.Quoted) Fail q (λ j m. here m) (λ j m. absurd cc) l) k) h
        steps place.Escaped h = on_if (c == 34 || c == 92) (text_on s place.Quoted) Fail q (λ g k. here k) (λ g k. absurd cc) h
        steps place.Closed h = ended_on s q c h

text_alive : (f : Follow) → IsOutside f → IsAlive text_advance (Within f)
text_alive f out = record {
  keeps = λ s p c w h. text_keeps f s p c w h;
  some = λ s w. let r = some_place s.place s.follow s.end (subst IsOutside (sym w) out) in (r.1.0, r.0, r.1.1);
}

-- ---- forth

-- what a place still reads
abbrev TextRest : Follow → TextPlace → ℕ → List ℕ → Type 0
TextRest f place.Start c t = (s x : List ℕ) × (t ≡ x ++ c ∷ []) × IsFolderName s x × (may_follow f c ≡ true)
TextRest f place.Atom c t = (x : List ℕ) × Each is_atom x × (t ≡ x ++ c ∷ []) × (may_follow f c ≡ true)
TextRest f place.Quoted c t = (s : List ℕ) × Each is_text s × (t ≡ escaped s ++ 34 ∷ c ∷ []) × (may_follow f c ≡ true)
TextRest f place.Escaped c t = (d : ℕ) × (s y : List ℕ) × (t ≡ d ∷ y) × ((d == 34 || d == 92) ≡ true) × Each is_text s × (y ≡ escaped s ++ 34 ∷ c ∷ []) × (may_follow f c ≡ true)
TextRest f place.Closed c t = (t ≡ c ∷ []) × (may_follow f c ≡ true)

special_text : (d : ℕ) → (d == 34 || d == 92) ≡ true → is_text d ≡ true
special_text d e = grind arith

ended_forth : {P : Type 0} (s v : StringText) (c : ℕ) (t : List ℕ) → (may_follow s.follow v.end ≡ true → c ∷ t ≡ v.end ∷ [] → P)
    → AcceptsBy (text_ended s c) (λ p. Accepts text_advance p v t) v t → P
ended_forth s v c t k h = from_if (may_follow s.follow c) (End (record s { end = c })) Fail (λ p. Accepts text_advance p v t) v t
    (λ may g.
    let end : v.end ≡ c = ap (λ (r : StringText). r.end) g.0 in
    k (ap (may_follow s.follow) end ∙ may) (ap (λ (u : List ℕ). c ∷ u) g.1 ∙ ap (λ (n : ℕ). n ∷ []) (sym end))) (λ may g. absurd g) h

text_step : (f : Follow) (p : TextPlace) (e c : ℕ) (v : StringText) (t : List ℕ) → ((q : TextPlace) → Accepts text_advance (text f q e) v t → TextRest f q v.end t)
    → AcceptsBy (text_advance (text f p e) c) (λ q. Accepts text_advance q v t) v t → TextRest f p v.end (c ∷ t)
text_step f place.Start e c v t ih h =
    from_if (c == 34) (on f place.Quoted e) (cond (is_atom c) (on f place.Atom e) Fail) (λ q. Accepts text_advance q v t) v t
    (λ g k. let r = ih place.Quoted k in
    (r.0, quoted r.0, ap (λ (n : ℕ). n ∷ t) (eqb-true c 34 g) ∙ ap (λ (u : List ℕ). 34 ∷ u) (r.2 ∙ sym (append_assoc (escaped r.0) (34 ∷ []) (v.end ∷ []))), inr (r.1, refl), r.3))
    (λ g k. from_if (is_atom c) (on f place.Atom e) Fail (λ q. Accepts text_advance q v t) v t
    (λ i l. let r = ih place.Atom l in (c ∷ r.0, c ∷ r.0, ap (λ (u : List ℕ). c ∷ u) r.2, inl (((i, r.1), omega arith), refl), r.3)) (λ i l. absurd l) k) h
text_step f place.Atom e c v t ih h =
    from_if (is_atom c) (on f place.Atom e) (text_ended (text f place.Atom e) c) (λ q. Accepts text_advance q v t) v t
    (λ g k. let r = ih place.Atom k in (c ∷ r.0, (g, r.1), ap (λ (u : List ℕ). c ∷ u) r.2, r.3))
    (λ g k. ended_forth (text f place.Atom e) v c t (λ may same. ([], tt, same, may)) k) h
text_step f place.Quoted e c v t ih h =
    from_if (c == 34) (on f place.Closed e) (cond (c == 92) (on f place.Escaped e) (cond (is_text c) (on f place.Quoted e) Fail)) (λ q. Accepts text_advance q v t) v t
    (λ g k. let r = ih place.Closed k in ([], tt, ap (λ (n : ℕ). n ∷ t) (eqb-true c 34 g) ∙ ap (λ (u : List ℕ). 34 ∷ u) r.0, r.1))
    (λ g k. from_if (c == 92) (on f place.Escaped e) (cond (is_text c) (on f place.Quoted e) Fail) (λ q. Accepts text_advance q v t) v t
    (λ i l. let r = ih place.Escaped l in (
      r.0 ∷ r.1,
      (special_text r.0 r.4, r.5),
      ap (λ (n : ℕ). n ∷ t) (eqb-true c 92 i) ∙ ap (λ (u : List ℕ). 92 ∷ u) (r.3 ∙ ap (λ (u : List ℕ). r.0 ∷ u) r.6)
          ∙ ap (λ (u : List ℕ). u ++ 34 ∷ v.end ∷ []) (sym (cond-true (r.0 == 34 || r.0 == 92) (92 ∷ r.0 ∷ escaped r.1) (r.0 ∷ escaped r.1) r.4)),
      r.7,
    ))
    (λ i l. from_if (is_text c) (on f place.Quoted e) Fail (λ q. Accepts text_advance q v t) v t
    (λ j m. let r = ih place.Quoted m in (
      c ∷ r.0,
      (j, r.1),
      ap (λ (u : List ℕ). c ∷ u) r.2
          ∙ ap (λ (u : List ℕ). u ++ 34 ∷ v.end ∷ []) (sym (cond-false (c == 34 || c == 92) (92 ∷ c ∷ escaped r.0) (c ∷ escaped r.0) (both c g i))),
      r.3,
    )) (λ j m. absurd m) l) k) h
  where
    both : (c : ℕ) → (c == 34) ≡ false → (c == 92) ≡ false → (c == 34 || c == 92) ≡ false
    both c a b = grind arith
text_step f place.Escaped e c v t ih h =
    from_if (c == 34 || c == 92) (on f place.Quoted e) Fail (λ q. Accepts text_advance q v t) v t
    (λ g k. let r = ih place.Quoted k in (c, r.0, t, refl, g, r.1, r.2, r.3)) (λ g k. absurd k) h
text_step f place.Closed e c v t ih h = ended_forth (text f place.Closed e) v c t (λ may same. (same, may)) h

text_forth : (t : List ℕ) (f : Follow) (p : TextPlace) (e : ℕ) (v : StringText) → Accepts text_advance (text f p e) v t → TextRest f p v.end t
text_forth [] f p e v h = absurd h
text_forth (c ∷ t) f p e v h = text_step f p e c v t (λ q k. text_forth t f q e v k) h

-- ---- the reader

-- a folder's name, and the octet that follows it
abbrev pub NameText : Follow → List ℕ × ℕ → List ℕ → Type 0
NameText f v t = (x : List ℕ) × (t ≡ x ++ v.1 ∷ []) × IsFolderName v.0 x × (may_follow f v.1 ≡ true)

is_string : (s x : List ℕ) → IsFolderName s x → IsAString s x
is_string s x (inl a) = inl a
is_string s x (inr q) = inr (inl q)

no_brace : (f : Follow) (c : ℕ) → may_follow f c ≡ true → (c == 123) ≡ false
no_brace follow.Space c e = grind arith
no_brace follow.Line c e = grind arith
no_brace follow.SpaceOrLine c e = grind arith
no_brace follow.ColonOrSpace c e = grind arith
no_brace follow.Close c e = grind arith

-- a name is read back, whatever follows the octet behind it
name_is : (f : Follow) → IsOutside f → (s x t rest : List ℕ) (c : ℕ) → t ≡ x ++ c ∷ [] → IsFolderName s x → may_follow f c ≡ true → (astring_in (plain_octets t ++ rest)).0 ≡ s
name_is f out s x t rest c whole name may =
    let e : plain_octets t ++ rest ≡ plain_octets x ++ c ∷ rest =
    ap (λ (u : List ℕ). plain_octets u ++ rest) whole ∙ plain_cut x (c ∷ []) rest ∙ ap (λ (u : List ℕ). plain_octets x ++ (u ++ rest)) (octet_alone c (follow_small f c may)) in
    ap (λ (r : List ℕ × List ℕ). r.0) (astring_read s x (c ∷ rest) (plain_octets t ++ rest) (is_string s x name) (out c may, no_brace f c may) e)

abbrev named : StringText → List ℕ → List ℕ × ℕ
named text b = ((astring_in b).0, text.end)

pub name_reader : (f : Follow) → IsOutside f → IsReader NeedMore (NameText f) (name_at f)
unfolding name_at
name_reader f out = same_reader NeedMore (Viewed named (Accepts text_advance (text_before f))) (NameText f) (viewed named (read_from text_advance (text_before f))) forth back
    (view_reader NeedMore named (Accepts text_advance (text_before f)) (read_from text_advance (text_before f))
    (lexeme_reader text_advance (Within f) text_plain (text_alive f out) (text_before f) refl) alone)
  where
    value : (v : StringText) (t rest : List ℕ) (h : Accepts text_advance (text_before f) v t) → (astring_in (plain_octets t ++ rest)).0 ≡ (text_forth t f place.Start 0 v h).0
    value v t rest h = let r = text_forth t f place.Start 0 v h in name_is f out r.0 r.1 t rest v.end r.2 r.3 r.4

    whole : (v : StringText) (t : List ℕ) (h : Accepts text_advance (text_before f) v t) → (astring_in (plain_octets t)).0 ≡ (text_forth t f place.Start 0 v h).0
    whole v t h = ap (λ (u : List ℕ). (astring_in u).0) (sym (append-nil (plain_octets t))) ∙ value v t [] h

    alone : (a : StringText) (t rest : List ℕ) → Accepts text_advance (text_before f) a t → named a (plain_octets t ++ rest) ≡ named a (plain_octets t)
    alone a t rest h = ap (λ (s : List ℕ). (s, a.end)) (value a t rest h ∙ sym (whole a t h))

    forth : (v : List ℕ × ℕ) (t : List ℕ) → Viewed named (Accepts text_advance (text_before f)) v t → NameText f v t
    forth v t h =
        let r = text_forth t f place.Start 0 h.0 h.1 in
        let same : v ≡ (r.0, h.0.end) = h.2 ∙ ap (λ (s : List ℕ). (s, h.0.end)) (whole h.0 t h.1) in
        subst (λ (w : List ℕ × ℕ). NameText f w t) (sym same) (r.1, r.2, r.3, r.4)

    back : (v : List ℕ × ℕ) (t : List ℕ) → NameText f v t → Viewed named (Accepts text_advance (text_before f)) v t
    back v t h =
        let r = subst (ReadTo f place.Start 0 v.1) (sym h.1) (name_back v.0 h.0 f 0 v.1 h.2 h.3 (out v.1 h.3)) in
        let name : (astring_in (plain_octets t)).0 ≡ v.0 =
        ap (λ (u : List ℕ). (astring_in u).0) (sym (append-nil (plain_octets t))) ∙ name_is f out v.0 h.0 t [] v.1 h.1 h.2 h.3 in
        (r.0, r.1, ap (λ (s : List ℕ). (s, v.1)) (sym name) ∙ ap (λ (n : ℕ). ((astring_in (plain_octets t)).0, n)) (sym r.2))
