-- A multipart that is written is split into its parts.
use Rattle.std.proofs.Common.{◌≡◌, ◌≢◌, ℕ, ◌+◌, ◌-◌, ◌≤◌, Bool, true, false, not, ◌&&◌, List, [], ◌∷◌, ◌++◌, length, map, take, drop, refl, sym, ap, ◌∙◌, subst, arith, append_assoc}
use Rattle.std.proofs.Common.{eqb, cond, Option, Some, None}
use Rattle.std.specs.Prelude.{slice_range}
use Rattle.std.specs.Prelude.{codes}
use Rattle.std.specs.List.{flat_map, list_all}
use Rattle.std.proofs.lemmas.Bool.{and_parts, not-true, cond-false}
use Rattle.std.proofs.lemmas.List.{append-nil, length-append, take_at, drop_at}
use Rattle.text_words.specs.Cuts.{Each}
use Rattle.text_words.specs.Octets.{is_white}
use Rattle.mail_header.specs.Lines.{without_end}
use Rattle.mail_header.proofs.LineLemmas.{crlf_lost}
use Rattle.mime_tree.specs.declared.split.Piece.{Piece}
use Rattle.mime_tree.specs.Delimiters.{lines, onto, size, IsDelimiter, IsClosing}
use Rattle.mime_tree.specs.Splits.{ArePlain, piece, before, end_of, InPart, IsSplitPart, IsEnd, AreParts, HasParts, IsSplit}
use Rattle.message_lines.specs.Folding.{crlf}
use Rattle.message_texts.specs.Parts.{delimiter_line, closing_line, delimited, multipart_body}

abbrev pub is_no_lf : ℕ → Bool
is_no_lf c = not (eqb c 10)

-- ---- sizes

size-onto : (c : ℕ) (ls : List (List ℕ)) → size (onto c ls) ≡ 1 + size ls
size-onto c [] = omega arith
size-onto c (l ∷ ls) = omega arith

size-lines : (b : List ℕ) → size (lines b) ≡ length b
unfolding lines
size-lines [] = refl
size-lines (c ∷ t) = by (eqb c 10) (size-lines t)
  where
    by : (q : Bool) → size (lines t) ≡ length t → size (cond q ((10 ∷ []) ∷ lines t) (onto c (lines t))) ≡ length (c ∷ t)
    by true h = omega arith
    by false h = omega (arith, size-onto c (lines t))

-- ---- slices

pub slice_at : (p m q : List ℕ) (i j : ℕ) → i ≡ length p → j ≡ i + length m → slice_range (p ++ (m ++ q)) i j ≡ m
slice_at p m q i j e f =
    ap (take (j - i)) (drop_at p (m ++ q) i (sym e)) ∙ take_at m q (j - i) (omega (arith, e, f))

-- ---- lines

-- a line without LF, and its LF
pub line_first : (x t : List ℕ) → list_all is_no_lf x ≡ true → lines (x ++ 10 ∷ t) ≡ (x ++ 10 ∷ []) ∷ lines t
unfolding lines
line_first [] t e = refl
line_first (c ∷ x) t e =
    let p = and_parts (is_no_lf c) (list_all is_no_lf x) e in
    cond-false (eqb c 10) ((10 ∷ []) ∷ lines (x ++ 10 ∷ t)) (onto c (lines (x ++ 10 ∷ t))) (not-true (eqb c 10) p.0)
    ∙ ap (λ (u : List (List ℕ)). onto c u) (line_first x t p.1)

onto_append : (c : ℕ) (ls ms : List (List ℕ)) → ls ≢ [] → onto c (ls ++ ms) ≡ onto c ls ++ ms
onto_append c [] ms n = absurd (n refl)
onto_append c (l ∷ ls) ms n = refl

some_lines : (x : List ℕ) → lines (x ++ 10 ∷ []) ≢ []
unfolding lines
some_lines [] = λ e. absurd cc
some_lines (c ∷ x) = by (eqb c 10) (lines (x ++ 10 ∷ []))
  where
    by : (q : Bool) (ls : List (List ℕ)) → cond q ((10 ∷ []) ∷ ls) (onto c ls) ≢ []
    by true ls = λ e. absurd cc
    by false [] = λ e. absurd cc
    by false (l ∷ ls) = λ e. absurd cc

-- the lines of a text that ends in LF, and those of what follows it
pub lines_append : (x t : List ℕ) → lines ((x ++ 10 ∷ []) ++ t) ≡ lines (x ++ 10 ∷ []) ++ lines t
unfolding lines
lines_append [] t = refl
lines_append (c ∷ x) t = by (eqb c 10) (lines_append x t)
  where
    by : (q : Bool) → lines ((x ++ 10 ∷ []) ++ t) ≡ lines (x ++ 10 ∷ []) ++ lines t
        → cond q ((10 ∷ []) ∷ lines ((x ++ 10 ∷ []) ++ t)) (onto c (lines ((x ++ 10 ∷ []) ++ t))) ≡ cond q ((10 ∷ []) ∷ lines (x ++ 10 ∷ [])) (onto c (lines (x ++ 10 ∷ []))) ++ lines t
    by true h = ap (λ (u : List (List ℕ)). (10 ∷ []) ∷ u) h
    by false h = ap (λ (u : List (List ℕ)). onto c u) h ∙ onto_append c (lines (x ++ 10 ∷ [])) (lines t) (some_lines x)

-- ---- parts

-- a text with the end of its last line
abbrev pub closed : List ℕ → List ℕ
closed x = x ++ crlf

-- no line of the text is a line of a multipart's with this boundary
abbrev pub IsApart : List ℕ → List ℕ → Type 0
IsApart y x = ArePlain y (lines (closed x))

abbrev pub AreApart : List ℕ → List (List ℕ) → Type 0
AreApart y [] = Unit {0}
AreApart y (x ∷ xs) = IsApart y x × AreApart y xs

-- where the parts stand, where the first delimiter line begins at this place
abbrev pub places : List ℕ → ℕ → List (List ℕ) → List Piece
places y at [] = []
places y at (x ∷ xs) = piece (at + length (delimiter_line y)) (at + length (delimiter_line y) + length x) ∷ places y (at + length (delimiter_line y) + length x + 2) xs

pub closed_lines : (x t : List ℕ) → lines (closed x ++ t) ≡ lines (closed x) ++ lines t
closed_lines x t =
    let e : closed x ≡ (x ++ 13 ∷ []) ++ 10 ∷ [] = sym (append_assoc x (13 ∷ []) (10 ∷ [])) in
    ap (λ (u : List ℕ). lines (u ++ t)) e ∙ lines_append (x ++ 13 ∷ []) t ∙ ap (λ (u : List ℕ). lines u ++ lines t) (sym e)

-- the delimiter line is one line
pub delimiter_first : (y t : List ℕ) → list_all is_no_lf y ≡ true → lines (delimiter_line y ++ t) ≡ delimiter_line y ∷ lines t
delimiter_first y t e =
    let f : delimiter_line y ++ t ≡ (45 ∷ 45 ∷ (y ++ 13 ∷ [])) ++ 10 ∷ t =
    ap (λ (u : List ℕ). 45 ∷ 45 ∷ u) (append_assoc y crlf t ∙ sym (append_assoc y (13 ∷ []) (10 ∷ t))) in
    let g : (45 ∷ 45 ∷ (y ++ 13 ∷ [])) ++ 10 ∷ [] ≡ delimiter_line y = ap (λ (u : List ℕ). 45 ∷ 45 ∷ u) (append_assoc y (13 ∷ []) (10 ∷ [])) in
    ap lines f ∙ line_first (45 ∷ 45 ∷ (y ++ 13 ∷ [])) t (no_lf_with y e) ∙ ap (λ (u : List ℕ). u ∷ lines t) g
  where
    no_lf_with : (y : List ℕ) → list_all is_no_lf y ≡ true → list_all is_no_lf (y ++ 13 ∷ []) ≡ true
    no_lf_with [] e = refl
    no_lf_with (c ∷ y) e =
        let p = and_parts (is_no_lf c) (list_all is_no_lf y) e in
        ap (λ (q : Bool). q && list_all is_no_lf (y ++ 13 ∷ [])) p.0 ∙ no_lf_with y p.1

-- the last line, with an end or without one
abbrev pub last_line : List ℕ → List ℕ → List ℕ
last_line y end = 45 ∷ 45 ∷ (y ++ 45 ∷ 45 ∷ end)

pub record ClosesWith (y end : List ℕ) : Type 0 where
  pub alone : lines (last_line y end) ≡ last_line y end ∷ []
  pub white : Each is_white end

closing_alone : (y : List ℕ) → list_all is_no_lf y ≡ true → lines (last_line y crlf) ≡ last_line y crlf ∷ []
unfolding lines
closing_alone y e =
    let f : last_line y crlf ≡ (45 ∷ 45 ∷ (y ++ 45 ∷ 45 ∷ 13 ∷ [])) ++ 10 ∷ [] = ap (λ (u : List ℕ). 45 ∷ 45 ∷ u) (sym (append_assoc y (45 ∷ 45 ∷ 13 ∷ []) (10 ∷ []))) in
    ap lines f ∙ line_first (45 ∷ 45 ∷ (y ++ 45 ∷ 45 ∷ 13 ∷ [])) [] (no_lf_with y e) ∙ ap (λ (u : List ℕ). u ∷ []) (sym f)
  where
    no_lf_with : (y : List ℕ) → list_all is_no_lf y ≡ true → list_all is_no_lf (y ++ 45 ∷ 45 ∷ 13 ∷ []) ≡ true
    no_lf_with [] e = refl
    no_lf_with (c ∷ y) e =
        let p = and_parts (is_no_lf c) (list_all is_no_lf y) e in
        ap (λ (q : Bool). q && list_all is_no_lf (y ++ 45 ∷ 45 ∷ 13 ∷ [])) p.0 ∙ no_lf_with y p.1

pub closes_with_end : (y : List ℕ) → list_all is_no_lf y ≡ true → ClosesWith y crlf
closes_with_end y e = record { alone = closing_alone y e; white = (refl, (refl, tt)) }

line_whole : (c : ℕ) (x : List ℕ) → list_all is_no_lf (c ∷ x) ≡ true → lines (c ∷ x) ≡ (c ∷ x) ∷ []
unfolding lines
line_whole c [] e =
    let p = and_parts (is_no_lf c) true e in
    cond-false (eqb c 10) ((10 ∷ []) ∷ []) ((c ∷ []) ∷ []) (not-true (eqb c 10) p.0)
line_whole c (d ∷ x) e =
    let p = and_parts (is_no_lf c) (list_all is_no_lf (d ∷ x)) e in
    cond-false (eqb c 10) ((10 ∷ []) ∷ lines (d ∷ x)) (onto c (lines (d ∷ x))) (not-true (eqb c 10) p.0) ∙ ap (λ (u : List (List ℕ)). onto c u) (line_whole d x p.1)

pub closes_without_end : (y : List ℕ) → list_all is_no_lf y ≡ true → ClosesWith y []
closes_without_end y e = record { alone = line_whole 45 (45 ∷ (y ++ 45 ∷ 45 ∷ [])) (by y e); white = tt }
  where
    by : (y : List ℕ) → list_all is_no_lf y ≡ true → list_all is_no_lf (y ++ 45 ∷ 45 ∷ []) ≡ true
    by [] e = refl
    by (c ∷ y) e =
        let p = and_parts (is_no_lf c) (list_all is_no_lf y) e in
        ap (λ (q : Bool). q && list_all is_no_lf (y ++ 45 ∷ 45 ∷ [])) p.0 ∙ by y p.1

-- what is written of the parts, where the closing line ends so
unfoldable pub body_to : List ℕ → List ℕ → List (List ℕ) → List ℕ
body_to y end [] = last_line y end
body_to y end (x ∷ xs) = delimiter_line y ++ (closed x ++ body_to y end xs)

-- it is a multipart's body
pub body_written : (y : List ℕ) (xs : List (List ℕ)) → body_to y crlf xs ≡ multipart_body y (map closed xs)
unfolding body_to
body_written y [] = ap (λ (u : List ℕ). 45 ∷ 45 ∷ u) (sym (append_assoc y (45 ∷ 45 ∷ []) crlf))
body_written y (x ∷ xs) =
    ap (λ (u : List ℕ). delimiter_line y ++ (closed x ++ u)) (body_written y xs)
    ∙ sym (append_assoc (delimited y (closed x)) (flat_map (delimited y) (map closed xs)) (closing_line y) ∙ append_assoc (delimiter_line y) (closed x) (multipart_body y (map closed xs)))

-- and with the end of the closing line it is whole
pub body_ended : (y end : List ℕ) (xs : List (List ℕ)) → body_to y end xs ≡ body_to y [] xs ++ end
unfolding body_to
body_ended y end [] = ap (λ (u : List ℕ). 45 ∷ 45 ∷ u) (sym (append_assoc y (45 ∷ 45 ∷ []) end))
body_ended y end (x ∷ xs) =
    ap (λ (u : List ℕ). delimiter_line y ++ (closed x ++ u)) (body_ended y end xs)
    ∙ ap (λ (u : List ℕ). delimiter_line y ++ u) (sym (append_assoc (closed x) (body_to y [] xs) end))
    ∙ sym (append_assoc (delimiter_line y) (closed x ++ body_to y [] xs) end)

-- it begins with a line
begins_line : (y end : List ℕ) (xs : List (List ℕ)) → list_all is_no_lf y ≡ true → ClosesWith y end → (l : List ℕ) × (ls : List (List ℕ)) × (lines (body_to y end xs) ≡ l ∷ ls)
unfolding body_to
begins_line y end [] e c = (last_line y end, [], c.alone)
begins_line y end (x ∷ xs) e c = (delimiter_line y, lines (closed x ++ body_to y end xs), delimiter_first y (closed x ++ body_to y end xs) e)

end_is_before : (b : List ℕ) (start e : ℕ) (ls : List (List ℕ)) (l : List ℕ) (ms : List (List ℕ)) → ls ≡ l ∷ ms → end_of b start e ls ≡ before b start e
end_is_before b start e ls l ms h = ap (λ (u : List (List ℕ)). end_of b start e u) h

before_crlf : (b p x q : List ℕ) (start e : ℕ) → b ≡ p ++ (closed x ++ q) → start ≡ length p → e ≡ start + length (closed x) → before b start e ≡ start + length x
unfolding before
before_crlf b p x q start e h s f =
    let m : slice_range b start e ≡ closed x = ap (λ (u : List ℕ). slice_range u start e) h ∙ slice_at p (closed x) q start e s f in
    ap (λ (u : List ℕ). start + length (without_end u)) m ∙ ap (λ (u : List ℕ). start + length u) (crlf_lost x 13 10 refl)

closed_len : (x : List ℕ) → length (closed x) ≡ length x + 2
closed_len x = omega (arith, length-append x crlf)

-- the parts of what stands from this place on
parts_are : (y end pre b : List ℕ) (xs : List (List ℕ)) (at : ℕ) → list_all is_no_lf y ≡ true → ClosesWith y end → AreApart y xs → b ≡ pre ++ body_to y end xs → at ≡ length pre
    → AreParts b y (places y at xs) at (lines (body_to y end xs))
unfolding body_to
parts_are y end pre b [] at e c a h n =
    subst (λ (u : List (List ℕ)). IsEnd y u) (sym c.alone) (record { white = end; whole = refl; is_white = c.white })
parts_are y end pre b (x ∷ xs) at e c a h n =
    let d = length (delimiter_line y) in
    let more = body_to y end xs in
    let front = pre ++ delimiter_line y in
    let start : at + d ≡ length front = omega (arith, n, length-append pre (delimiter_line y)) in
    let whole : b ≡ front ++ (closed x ++ more) = h ∙ sym (append_assoc pre (delimiter_line y) (closed x ++ more)) in
    let whole' : b ≡ (front ++ closed x) ++ more = whole ∙ sym (append_assoc front (closed x) more) in
    let counted : size (lines (closed x)) ≡ length x + 2 = size-lines (closed x) ∙ closed_len x in
    let next : at + d + length x + 2 ≡ length (front ++ closed x) = omega (arith, start, length-append front (closed x), closed_len x) in
    let l = begins_line y end xs e c in
    record {
      line = delimiter_line y;
      lines = lines (closed x) ++ lines more;
      whole = delimiter_first y (closed x ++ more) e ∙ ap (λ (u : List (List ℕ)). delimiter_line y ∷ u) (closed_lines x more);
      delimiter = record { white = crlf; whole = refl; is_white = (refl, (refl, tt)) };
      part = record {
        inner = lines (closed x);
        rest = lines more;
        whole = refl;
        plain = a.0;
        start_is = refl;
        end_is = sym (end_is_before b (at + d) (at + d + size (lines (closed x))) (lines more) l.0 l.1 l.2
            ∙ before_crlf b front x more (at + d) (at + d + size (lines (closed x))) whole start (omega (arith, counted, closed_len x)));
        behind = subst (λ (k : ℕ). AreParts b y (places y (at + d + length x + 2) xs) k (lines more)) (omega (arith, counted)) (parts_are y end (front ++ closed x) b xs (at + d + length x + 2) e c a.1 whole' next);
      };
    }

-- where there is a part, the body is split into the parts
pub split_written : (y end x : List ℕ) (xs : List (List ℕ)) → list_all is_no_lf y ≡ true → ClosesWith y end → AreApart y (x ∷ xs)
    → IsSplit (body_to y end (x ∷ xs)) y (Some (places y 0 (x ∷ xs)))
split_written y end x xs e c a = record {
  preamble = [];
  rest = lines (body_to y end (x ∷ xs));
  whole = refl;
  plain = tt;
  follows = parts_are y end [] (body_to y end (x ∷ xs)) (x ∷ xs) 0 e c a refl refl;
}

-- ---- the octets of the parts

-- each part stands at its place
abbrev pub AreAt : List ℕ → List Piece → List (List ℕ) → Type 0
AreAt b [] xs = xs ≡ []
AreAt b (q ∷ qs) [] = ⊥
AreAt b (q ∷ qs) (x ∷ xs) = (slice_range b q.start q.end ≡ x) × (q.end ≤ length b) × AreAt b qs xs × (q.start ≤ q.end)

pub parts_at : (y end pre b : List ℕ) (xs : List (List ℕ)) (at : ℕ) → b ≡ pre ++ body_to y end xs → at ≡ length pre → AreAt b (places y at xs) xs
unfolding body_to
parts_at y end pre b [] at h n = refl
parts_at y end pre b (x ∷ xs) at h n =
    let d = length (delimiter_line y) in
    let more = body_to y end xs in
    let front = pre ++ delimiter_line y in
    let start : at + d ≡ length front = omega (arith, n, length-append pre (delimiter_line y)) in
    let whole : b ≡ front ++ (closed x ++ more) = h ∙ sym (append_assoc pre (delimiter_line y) (closed x ++ more)) in
    let inner : b ≡ front ++ (x ++ (crlf ++ more)) = whole ∙ ap (λ (u : List ℕ). front ++ u) (append_assoc x crlf more) in
    let whole' : b ≡ (front ++ closed x) ++ more = whole ∙ sym (append_assoc front (closed x) more) in
    let next : at + d + length x + 2 ≡ length (front ++ closed x) = omega (arith, start, length-append front (closed x), closed_len x) in (
      ap (λ (u : List ℕ). slice_range u (at + d) (at + d + length x)) inner ∙ slice_at front x (crlf ++ more) (at + d) (at + d + length x) start refl,
      omega (arith, start, ap length inner, length-append front (x ++ (crlf ++ more)), length-append x (crlf ++ more)),
      parts_at y end (front ++ closed x) b xs (at + d + length x + 2) whole' next,
      omega arith,
    )
