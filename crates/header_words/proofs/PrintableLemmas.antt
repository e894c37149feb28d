-- Pieces of quoted-printable are read as they are spelled.
use Rattle.std.proofs.Common.{◌≡◌, ◌≢◌, ℕ, zero, suc, ◌+◌, ◌<◌, ◌≤◌, Bool, true, false, ◌||◌, List, [], ◌∷◌, ◌++◌, length, drop, cond, refl, sym, ap, ◌∙◌, subst, append_assoc}
use Rattle.std.proofs.Common.{Option, Some, None, eqb, eqb-true, arith}
use Rattle.std.specs.List.{flat_map, list_any}
use Rattle.std.proofs.lemmas.Bool.{cond-true, cond-false, eqb-false, ne_eqb}
use Rattle.std.proofs.lemmas.Grind.{flat_map-append}
use Rattle.std.proofs.lemmas.List.{append-nil, length-append, length-drop, drop-drop}
use Rattle.std.proofs.lemmas.List.Folds.{list_any-append}
use Rattle.text_words.specs.Cuts.{Each, IsRun, Stops, front, back}
use Rattle.text_words.specs.LineEnds.{IsLineEnd, Lf, CrLf, line_end_len}
use Rattle.text_words.specs.Octets.{is_blank, hex_value}
use Rattle.text_words.specs.Sequence.{UnitAt}
use Rattle.text_words.proofs.CutLemmas.{front_back, front_each, back_stops, front_is, back_is, drop_front}
use Rattle.text_words.proofs.LineEndLemmas.{end_len, end_some, end_found}
use Rattle.text_words.proofs.SequenceLemmas.{IsReader, Behind, begins, unit_within, read_more, all_done, unit_same, one_reading, determined}
use Rattle.header_words.specs.QuotedPrintable.{Piece, right, IsSoft, BeginsWithHex, BeginsWithSoft, ends_line, IsPiece, Hex, SoftBreak, WrongSign, Trailing, Blanks, Itself}
use Rattle.header_words.specs.QuotedPrintable.{IsPrintable, HasPrintableLen}
use Rattle.header_words.specs.Transfer.{IsBody}
use Rattle.header_words.specs.declared.transfer.Encoding.{Encoding}
use Rattle.header_words.specs.declared.transfer.Encoding.TheVariants as encoding
use Rattle.header_words.specs.reading.Units.{hex_pair, hex_in, break_of, sign_of, blanks_of, piece_in, IsRead}
use Rattle.header_words.proofs.QuotedLemmas.{hex_sound, hex_complete}

-- ---- ends of lines

end_stops : (e s : List ℕ) → IsLineEnd e → Stops is_blank (e ++ s)
end_stops _ s Lf = refl
end_stops _ s CrLf = refl

ends_stops : (t : List ℕ) → ends_line t ≡ true → Stops is_blank t
ends_stops [] e = tt
ends_stops (c ∷ t) e = grind arith

-- ---- what is spelled is read

no_hex : (t : List ℕ) → (BeginsWithHex t → ⊥) → hex_in t ≡ None
no_hex t n = by (hex_in t) refl
  where
    by : (o : Option ℕ) → hex_in t ≡ o → hex_in t ≡ None
    by None e = e
    by (Some c) e =
        let h = hex_sound c t e in
        absurd (n (record { digits = h.digits; rest = h.rest; whole = h.whole }))

no_break : (t : List ℕ) → (BeginsWithSoft t → ⊥) → line_end_len (back is_blank t) ≡ 0
no_break t n = by (line_end_len (back is_blank t)) refl
  where
    by : (k : ℕ) → line_end_len (back is_blank t) ≡ k → line_end_len (back is_blank t) ≡ 0
    by zero e = e
    by (suc k) e =
        let f = end_found (back is_blank t) k e in
        absurd (n (record {
          break = front is_blank t ++ f.end;
          rest = f.rest;
          whole = front_back is_blank t ∙ ap (λ (u : List ℕ). front is_blank t ++ u) f.whole ∙ sym (append_assoc (front is_blank t) f.end f.rest);
          soft = record { blanks = front is_blank t; end = f.end; whole = refl; are_blank = front_each is_blank t; is_end = f.is_end };
        }))

soft_no_hex : (break rest : List ℕ) → IsSoft break → hex_in (break ++ rest) ≡ None
soft_no_hex break rest s = ap (λ (u : List ℕ). hex_in (u ++ rest)) s.whole ∙ by s.blanks s.end s.are_blank s.is_end
  where
    blank_digit : (c : ℕ) → is_blank c ≡ true → hex_value c ≡ None
    blank_digit c e = grind arith

    first : (c : ℕ) (t : List ℕ) → hex_value c ≡ None → hex_in (c ∷ t) ≡ None
    first c [] e = refl
    first c (d ∷ t) e = ap (λ (x : Option ℕ). hex_pair x (hex_value d)) e

    by : (b e : List ℕ) → Each is_blank b → IsLineEnd e → hex_in ((b ++ e) ++ rest) ≡ None
    by [] _ h Lf = first 10 rest refl
    by [] _ h CrLf = first 13 (10 ∷ rest) refl
    by (c ∷ b) e h k = first c ((b ++ e) ++ rest) (blank_digit c h.0)

soft_read : (break rest : List ℕ) → IsSoft break → sign_of None (break ++ rest) ≡ Some (right [], length (61 ∷ break))
soft_read break rest s =
    let w : break ++ rest ≡ s.blanks ++ (s.end ++ rest) = ap (λ (u : List ℕ). u ++ rest) s.whole ∙ append_assoc s.blanks s.end rest in
    let f = ap (front is_blank) w ∙ front_is is_blank s.blanks (s.end ++ rest) s.are_blank (end_stops s.end rest s.is_end) in
    let b = ap (back is_blank) w ∙ back_is is_blank s.blanks (s.end ++ rest) s.are_blank (end_stops s.end rest s.is_end) in
    let l = ap line_end_len b ∙ end_len s.end rest s.is_end in
    let k = end_some s.end s.is_end in
    ap (λ (n : ℕ). break_of n (line_end_len (back is_blank (break ++ rest)))) (ap length f)
    ∙ ap (break_of (length s.blanks)) (l ∙ k.1)
    ∙ ap (λ (n : ℕ). Some (right [], n)) (omega (arith, k.1, ap length s.whole, length-append s.blanks s.end))

blank_no_sign : (c : ℕ) → is_blank c ≡ true → eqb c 61 ≡ false
blank_no_sign c e = grind arith

blanks_read : (c : ℕ) (b s : List ℕ) (o : Option (Piece × ℕ)) → Each is_blank (c ∷ b) → Stops is_blank s → blanks_of (c ∷ b) s ≡ o → piece_in ((c ∷ b) ++ s) ≡ o
unfolding piece_in
blanks_read c b s o e k h =
    cond-false (eqb c 61) _ _ (blank_no_sign c e.0) ∙ cond-true (is_blank c) _ _ e.0
    ∙ ap (λ (f : List ℕ). blanks_of f (back is_blank (c ∷ (b ++ s)))) (front_is is_blank (c ∷ b) s e k)
    ∙ ap (blanks_of (c ∷ b)) (back_is is_blank (c ∷ b) s e k) ∙ h

complete : (v : Piece) (x s : List ℕ) → IsPiece v x s → piece_in (x ++ s) ≡ Some (v, length x)
unfolding piece_in
complete _ _ _ (Hex d s) = ap (λ (o : Option ℕ). sign_of o (d.high ∷ d.low ∷ s)) (hex_complete d s)
complete _ _ _ (SoftBreak break s h) = ap (λ (o : Option ℕ). sign_of o (break ++ s)) (soft_no_hex break s h) ∙ soft_read break s h
complete _ _ _ (WrongSign s n m) = ap (λ (o : Option ℕ). sign_of o s) (no_hex s n) ∙ ap (break_of (length (front is_blank s))) (no_break s m)
complete _ _ _ (Trailing [] s r e) = absurd (r.1 refl)
complete _ _ _ (Trailing (c ∷ b) s r e) = blanks_read c b s _ r.0 (ends_stops s e) (cond-true (ends_line s) _ _ e)
complete _ _ _ (Blanks [] s r k e) = absurd (r.1 refl)
complete _ _ _ (Blanks (c ∷ b) s r k e) = blanks_read c b s _ r.0 k (cond-false (ends_line s) _ _ e)
complete _ _ _ (Itself c s n k) = cond-false (eqb c 61) _ _ (ne_eqb c 61 n) ∙ cond-false (is_blank c) _ _ k

some : (v : Piece) (x s : List ℕ) → IsPiece v x s → x ≢ []
some _ _ _ (Hex d s) = λ e. absurd cc
some _ _ _ (SoftBreak break s h) = λ e. absurd cc
some _ _ _ (WrongSign s n m) = λ e. absurd cc
some _ _ _ (Trailing b s r e) = r.1
some _ _ _ (Blanks b s r k e) = r.1
some _ _ _ (Itself c s n k) = λ e. absurd cc

-- ---- what is read is spelled so

sign_sound : (v : Piece) (n : ℕ) (t : List ℕ) → sign_of (hex_in t) t ≡ Some (v, n) → UnitAt IsPiece v n (61 ∷ t)
sign_sound v n t e = by_hex (hex_in t) refl e
  where
    by_break : (k : ℕ) → hex_in t ≡ None → line_end_len (back is_blank t) ≡ k → break_of (length (front is_blank t)) k ≡ Some (v, n) → UnitAt IsPiece v n (61 ∷ t)
    by_break zero h k e =
        unit_same IsPiece _ v 1 n (61 ∷ t) e (record {
          unit = 61 ∷ [];
          rest = t;
          whole = refl;
          is = WrongSign t (λ b. let f = ap hex_in b.whole ∙ hex_complete b.digits b.rest in absurd cc)
              (λ b. no_soft b.break b.rest b.whole b.soft);
          counted = refl;
        })
      where
        no_soft : (break rest : List ℕ) → t ≡ break ++ rest → IsSoft break → ⊥
        no_soft break rest w s =
            let x : t ≡ s.blanks ++ (s.end ++ rest) = w ∙ ap (λ (u : List ℕ). u ++ rest) s.whole ∙ append_assoc s.blanks s.end rest in
            let b = ap (back is_blank) x ∙ back_is is_blank s.blanks (s.end ++ rest) s.are_blank (end_stops s.end rest s.is_end) in
            let l = ap line_end_len b ∙ end_len s.end rest s.is_end in
            let j = end_some s.end s.is_end in
            omega (arith, sym k, l, j.1)
    by_break (suc k) h l e =
        let f = end_found (back is_blank t) k l in
        let break = front is_blank t ++ f.end in
        unit_same IsPiece _ v (1 + length (front is_blank t) + suc k) n (61 ∷ t) e (record {
          unit = 61 ∷ break;
          rest = f.rest;
          whole = ap (λ (u : List ℕ). 61 ∷ u) (front_back is_blank t ∙ ap (λ (u : List ℕ). front is_blank t ++ u) f.whole ∙ sym (append_assoc (front is_blank t) f.end f.rest));
          is = SoftBreak break f.rest (record { blanks = front is_blank t; end = f.end; whole = refl; are_blank = front_each is_blank t; is_end = f.is_end });
          counted = omega (arith, f.counted, length-append (front is_blank t) f.end);
        })

    by_hex : (o : Option ℕ) → hex_in t ≡ o → sign_of o t ≡ Some (v, n) → UnitAt IsPiece v n (61 ∷ t)
    by_hex (Some c) h e =
        let x = hex_sound c t h in
        let P : ℕ → Type 0 = λ y. IsPiece (right (y ∷ [])) (61 ∷ x.digits.high ∷ x.digits.low ∷ []) x.rest in
        unit_same IsPiece _ v 3 n (61 ∷ t) e (record {
          unit = 61 ∷ x.digits.high ∷ x.digits.low ∷ [];
          rest = x.rest;
          whole = ap (λ (u : List ℕ). 61 ∷ u) x.whole;
          is = subst P (sym x.value) (Hex x.digits x.rest);
          counted = refl;
        })
    by_hex None h e = by_break (line_end_len (back is_blank t)) h refl e

blanks_sound : (v : Piece) (n c : ℕ) (t : List ℕ) → is_blank c ≡ true → blanks_of (front is_blank (c ∷ t)) (back is_blank (c ∷ t)) ≡ Some (v, n) → UnitAt IsPiece v n (c ∷ t)
unfolding front
blanks_sound v n c t b e = by (ends_line (back is_blank (c ∷ t))) refl e
  where
    run : IsRun is_blank (front is_blank (c ∷ t))
    run = (front_each is_blank (c ∷ t), λ h. let k = cond-true (is_blank c) (c ∷ front is_blank t) [] b in absurd cc)

    by : (q : Bool) → ends_line (back is_blank (c ∷ t)) ≡ q
        → cond {A = Option (Piece × ℕ)} q (Some (right [], length (front is_blank (c ∷ t)))) (Some (right (front is_blank (c ∷ t)), length (front is_blank (c ∷ t)))) ≡ Some
        (v, n) → UnitAt IsPiece v n (c ∷ t)
    by true h e = unit_same IsPiece _ v _ n (c ∷ t) e
        (record { unit = front is_blank (c ∷ t); rest = back is_blank (c ∷ t); whole = front_back is_blank (c ∷ t); is = Trailing _ _ run h; counted = refl })
    by false h e = unit_same IsPiece _ v _ n (c ∷ t) e (record {
      unit = front is_blank (c ∷ t);
      rest = back is_blank (c ∷ t);
      whole = front_back is_blank (c ∷ t);
      is = Blanks _ _ run (back_stops is_blank (c ∷ t)) h;
      counted = refl;
    })

sound : (v : Piece) (n : ℕ) (t : List ℕ) → piece_in t ≡ Some (v, n) → UnitAt IsPiece v n t
unfolding piece_in
sound v n [] e = absurd cc
sound v n (c ∷ t) e = by (eqb c 61) (is_blank c) refl refl e
  where
    by : (p q : Bool) → eqb c 61 ≡ p → is_blank c ≡ q
        → cond p (sign_of (hex_in t) t) (cond q (blanks_of (front is_blank (c ∷ t)) (back is_blank (c ∷ t))) (Some (right (c ∷ []), 1))) ≡ Some (v, n) → UnitAt IsPiece v n (c ∷ t)
    by true q h k e = let P : ℕ → Type 0 = λ y. UnitAt IsPiece v n (y ∷ t) in subst P (sym (eqb-true c 61 h)) (sign_sound v n t e)
    by false true h k e = blanks_sound v n c t k e
    by false false h k e = unit_same IsPiece _ v 1 n (c ∷ t) e (record { unit = c ∷ []; rest = t; whole = refl; is = Itself c t (eqb-false c 61 h) k; counted = refl })

-- reading the piece at the front of a text finds the piece that the text begins with, and nothing else
pub piece_reader : IsReader IsPiece piece_in
piece_reader = record { sound = sound; complete = complete; some = some }

-- ---- the walk

abbrev pub octets_of : Piece → List ℕ
octets_of p = p.octets

abbrev pub is_wrong : Piece → Bool
is_wrong p = p.wrong

-- these octets were written, and rest is left
pub record Written (octets : List ℕ) (problem : Bool) (rest t : List ℕ) : Type 0 where
  pub pieces : List Piece
  pub behind : Behind IsPiece pieces rest t
  pub spelled : octets ≡ flat_map octets_of pieces
  pub wrong : problem ≡ list_any is_wrong pieces

-- before any piece was read, no octet was written, there is no problem, and the whole text is left
pub nothing_written : (t : List ℕ) → Written [] false t t
nothing_written t = record { pieces = []; behind = begins IsPiece t; spelled = refl; wrong = refl }

or_false : (p : Bool) → (p || false) ≡ p
or_false true = refl
or_false false = refl

-- where a piece was read, its octets go after those written, and there is a problem if there was one or the piece is wrong
pub written_more : (octets octets' more rest rest' t : List ℕ) (problem wrong problem' : Bool) → Written octets problem rest t → IsRead (piece_in rest) rest rest' more wrong
    → octets' ≡ octets ++ more → problem' ≡ (problem || wrong) → Written octets' problem' rest' t
written_more octets octets' more rest rest' t problem wrong problem' w p f e =
    let next = read_more piece_in piece_reader w.pieces p.piece p.len rest t w.behind p.read_is in
    record {
      pieces = w.pieces ++ p.piece ∷ [];
      behind = subst (λ (u : List ℕ). Behind IsPiece (w.pieces ++ p.piece ∷ []) u t) (sym p.rest_is) next;
      spelled = f ∙ ap (λ (u : List ℕ). octets ++ u) p.octets_are ∙ ap (λ (u : List ℕ). u ++ p.piece.octets) w.spelled
          ∙ ap (λ (u : List ℕ). flat_map octets_of w.pieces ++ u) (sym (append-nil p.piece.octets)) ∙ sym (flat_map-append octets_of w.pieces (p.piece ∷ []));
      wrong = e ∙ ap (λ (q : Bool). q || wrong) w.wrong ∙ ap (λ (q : Bool). list_any is_wrong w.pieces || q) (p.wrong_is ∙ sym (or_false p.piece.wrong))
          ∙ sym (list_any-append is_wrong w.pieces (p.piece ∷ []));
    }

-- where nothing is left, the octets written are those that the text spells
pub written_all : (octets rest t : List ℕ) (problem : Bool) → Written octets problem rest t → rest ≡ [] → IsPrintable octets problem t
written_all octets rest t problem w e = record { pieces = w.pieces; are = all_done w.pieces rest t w.behind e; spelled = w.spelled; wrong = w.wrong }

-- what was read is some of the text
pub shorter : (rest rest' more : List ℕ) (wrong : Bool) → IsRead (piece_in rest) rest rest' more wrong → length rest' < length rest
shorter rest rest' more wrong p =
    let w = unit_within piece_in piece_reader p.piece p.len rest p.read_is in
    omega (arith, w.some, w.within, ap length p.rest_is, length-drop p.len rest)

-- blanks stand for themselves, or are dropped at the end of a line
pub dropped_blanks : (t rest none : List ℕ) → rest ≡ back is_blank t → none ≡ [] → ends_line rest ≡ true → IsRead (blanks_of (front is_blank t) (back is_blank t)) t rest none false
dropped_blanks t rest none e z h = record {
  piece = right [];
  len = length (front is_blank t);
  read_is = cond-true (ends_line (back is_blank t)) _ _ (sym (ap ends_line e) ∙ h);
  rest_is = e ∙ sym (drop_front is_blank t);
  wrong_is = refl;
  octets_are = z;
}

-- where the line goes on after them, blanks stand for themselves
pub kept_blanks : (t blanks rest : List ℕ) → blanks ≡ front is_blank t → rest ≡ back is_blank t → ends_line rest ≡ false
    → IsRead (blanks_of (front is_blank t) (back is_blank t)) t rest blanks false
kept_blanks t blanks rest f e h = record {
  piece = right (front is_blank t);
  len = length (front is_blank t);
  read_is = cond-false (ends_line (back is_blank t)) _ _ (sym (ap ends_line e) ∙ h);
  rest_is = e ∙ sym (drop_front is_blank t);
  wrong_is = refl;
  octets_are = f;
}

-- a soft break stands for nothing
pub dropped_break : (t rest behind none : List ℕ) (n : ℕ) → rest ≡ back is_blank t → none ≡ [] → n ≡ line_end_len rest → n ≢ 0 → behind ≡ drop n rest
    → IsRead (break_of (length (front is_blank t)) (line_end_len (back is_blank t))) (61 ∷ t) behind none false
dropped_break t rest behind none n e z l k b = by n refl
  where
    by : (m : ℕ) → n ≡ m → IsRead (break_of (length (front is_blank t)) (line_end_len (back is_blank t))) (61 ∷ t) behind none false
    by zero h = absurd (k h)
    by (suc m) h = record {
      piece = right [];
      len = 1 + length (front is_blank t) + suc m;
      read_is = ap (break_of (length (front is_blank t))) (sym (ap line_end_len e) ∙ sym l ∙ h);
      rest_is = b ∙ ap (drop n) (e ∙ sym (drop_front is_blank t)) ∙ drop-drop n (length (front is_blank t)) t ∙ ap (λ (i : ℕ). drop i (61 ∷ t)) same;
      wrong_is = refl;
      octets_are = z;
    }
      where
        same : suc (length (front is_blank t) + n) ≡ 1 + length (front is_blank t) + suc m
        same = omega (arith, h)

-- an "=" that begins nothing stands for itself
pub kept_sign : (t rest behind sign : List ℕ) (n : ℕ) → rest ≡ back is_blank t → n ≡ line_end_len rest → n ≡ 0 → sign ≡ 61 ∷ [] → behind ≡ t
    → IsRead (break_of (length (front is_blank t)) (line_end_len (back is_blank t))) (61 ∷ t) behind sign true
kept_sign t rest behind sign n e l z s b = record {
  piece = record { octets = 61 ∷ []; wrong = true };
  len = 1;
  read_is = ap (break_of (length (front is_blank t))) (sym (ap line_end_len e) ∙ sym l ∙ z);
  rest_is = b;
  wrong_is = refl;
  octets_are = s;
}

-- a piece stands for no more octets than it has
piece_fits : (v : Piece) (x s : List ℕ) → IsPiece v x s → length v.octets ≤ length x
piece_fits _ _ _ (Hex d s) = omega arith
piece_fits _ _ _ (SoftBreak break s h) = omega arith
piece_fits _ _ _ (WrongSign s n m) = omega arith
piece_fits _ _ _ (Trailing b s r e) = omega arith
piece_fits _ _ _ (Blanks b s r k e) = omega arith
piece_fits _ _ _ (Itself c s n k) = omega arith

-- a piece that is read stands for no more octets than it takes of the text
pub read_fits : (rest rest' more : List ℕ) (wrong : Bool) → IsRead (piece_in rest) rest rest' more wrong → length more + length rest' ≤ length rest
read_fits rest rest' more wrong p =
    let u = sound p.piece p.len rest p.read_is in
    let w = unit_within piece_in piece_reader p.piece p.len rest p.read_is in
    omega (arith, piece_fits p.piece u.unit u.rest u.is, u.counted, w.within, ap length p.octets_are, ap length p.rest_is, length-drop p.len rest)

-- n octets were read, and rest is left
pub record Counted (n : ℕ) (rest t : List ℕ) : Type 0 where
  pub octets : List ℕ
  pub problem : Bool
  pub written : Written octets problem rest t
  pub counted : n ≡ length octets

-- before any piece was read, no octet was counted, and the whole text is left
pub none_counted : (t : List ℕ) → Counted 0 t t
none_counted t = record { octets = []; problem = false; written = nothing_written t; counted = refl }

-- where a piece was read, the octets that it stands for are added to the count
pub counted_more : (n k : ℕ) (more rest rest' t : List ℕ) (wrong : Bool) → Counted n rest t → IsRead (piece_in rest) rest rest' more wrong → k ≡ length more
    → Counted (n + k) rest' t
counted_more n k more rest rest' t wrong h p e = record {
  octets = h.octets ++ more;
  problem = h.problem || wrong;
  written = written_more h.octets (h.octets ++ more) more rest rest' t h.problem wrong (h.problem || wrong) h.written p refl refl;
  counted = omega (arith, h.counted, e, length-append h.octets more);
}

-- where nothing is left, the count is how many octets the text spells
pub counted_all : (n : ℕ) (rest t : List ℕ) → Counted n rest t → rest ≡ [] → HasPrintableLen n t
counted_all n rest t h e = record { octets = h.octets; problem = h.problem; is = written_all h.octets rest t h.problem h.written e; counted = h.counted }

-- a text spells one list of octets
pub one_printable : (s t b : List ℕ) (p q : Bool) → IsPrintable s p b → IsPrintable t q b → (s ≡ t) × (p ≡ q)
one_printable s t b p q g h =
    let e = one_reading (determined piece_in piece_reader) g.pieces h.pieces b g.are h.are in
    (g.spelled ∙ ap (flat_map octets_of) e ∙ sym h.spelled, g.wrong ∙ ap (list_any is_wrong) e ∙ sym h.wrong)

-- in an encoding, a body spells one list of octets, and there is one answer to whether it has a problem
pub one_body : (e : Encoding) (s t b : List ℕ) (p q : Bool) → IsBody e s p b → IsBody e t q b → (s ≡ t) × (p ≡ q)
one_body encoding.Identity s t b p q g h = (g.0 ∙ sym h.0, g.1 ∙ sym h.1)
one_body encoding.QuotedPrintable s t b p q g h = one_printable s t b p q g h
one_body encoding.Base64 s t b p q g h = (g.0 ∙ sym h.0, g.1 ∙ sym h.1)
one_body encoding.Unknown s t b p q g h = (g.0 ∙ sym h.0, g.1 ∙ sym h.1)
