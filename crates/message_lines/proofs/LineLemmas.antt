-- Pieces that are laid one after another.
use Rattle.std.proofs.Common.{◌≡◌, ℕ, ◌+◌, Bool, true, false, ◌||◌, cond, length, List, [], ◌∷◌, ◌++◌, refl, sym, ap, ◌∙◌}
use Rattle.std.proofs.lemmas.List.{append_assoc, append-nil}
use Rattle.message_lines.specs.declared.folding.Line.{Line}
use Rattle.message_lines.specs.Folding.{FieldPiece, laid, line_after, next_line, line_with, line_of, gap, is_short, Lays}

-- the pieces of two lists
pub laid-append : (line : Line) (ps qs : List FieldPiece) → laid line (ps ++ qs) ≡ laid line ps ++ laid (line_after line ps) qs
unfolding laid line_after
laid-append line [] qs = refl
laid-append line (p ∷ ps) qs =
    let first = gap (is_short (line_with line p)) in
    ap (λ (u : List ℕ). first ++ (p.text ++ u)) (laid-append (next_line line p) ps qs)
    ∙ ap (λ (u : List ℕ). first ++ u) (sym (append_assoc p.text (laid (next_line line p) ps) (laid (line_after (next_line line p) ps) qs)))
    ∙ sym (append_assoc first (p.text ++ laid (next_line line p) ps) (laid (line_after (next_line line p) ps) qs))

pub line_after-append : (line : Line) (ps qs : List FieldPiece) → line_after line (ps ++ qs) ≡ line_after (line_after line ps) qs
unfolding line_after
line_after-append line [] qs = refl
line_after-append line (p ∷ ps) qs = line_after-append (next_line line p) ps qs

-- Whatever the rest is written as, behind a line in a text, the whole is written as what was written before and that.
pub record Goes (Whole Rest : List FieldPiece → Type 0) (begun : Line) (before : List ℕ) (line : Line) (text : List ℕ) : Type 0 where
  pub goes : (qs : List FieldPiece) → Rest qs → Lays Whole begun before (text ++ laid line qs) (line_after line qs)

-- nothing is written yet
pub goes_begin : (Whole : List FieldPiece → Type 0) (line : Line) (before text : List ℕ) → text ≡ before → Goes Whole Whole line before line text
goes_begin Whole line before text e = record {
  goes = λ qs a. record { pieces = qs; are = a; text_is = ap (λ (u : List ℕ). u ++ laid line qs) e; line_is = refl };
}

-- pieces more are written
pub goes_on : (Whole Rest More : List FieldPiece → Type 0) (begun : Line) (before : List ℕ) (line after : Line) (text new : List ℕ) (ps : List FieldPiece)
    → Goes Whole Rest begun before line text → new ≡ text ++ laid line ps → after ≡ line_after line ps
    → ((qs : List FieldPiece) → More qs → Rest (ps ++ qs)) → Goes Whole More begun before after new
goes_on Whole Rest More begun before line after text new ps g e f more = record {
  goes = λ qs a.
      let whole = g.goes (ps ++ qs) (more qs a) in
      let same : text ++ laid line (ps ++ qs) ≡ new ++ laid after qs =
      ap (λ (u : List ℕ). text ++ u) (laid-append line ps qs) ∙ sym (append_assoc text (laid line ps) (laid (line_after line ps) qs))
      ∙ ap (λ (u : List ℕ). u ++ laid (line_after line ps) qs) (sym e) ∙ ap (λ (l : Line). new ++ laid l qs) (sym f) in
      let end : line_after line (ps ++ qs) ≡ line_after after qs = line_after-append line ps qs ∙ ap (λ (l : Line). line_after l qs) (sym f) in
      record { pieces = whole.pieces; are = whole.are; text_is = sym same ∙ whole.text_is; line_is = sym end ∙ whole.line_is };
}

-- nothing is left
pub goes_end : (Whole Rest : List FieldPiece → Type 0) (begun : Line) (before : List ℕ) (line : Line) (text : List ℕ) → Goes Whole Rest begun before line text → Rest []
    → Lays Whole begun before text line
unfolding laid line_after
goes_end Whole Rest begun before line text g r =
    let whole = g.goes [] r in
    record { pieces = whole.pieces; are = whole.are; text_is = sym (append-nil text) ∙ whole.text_is; line_is = whole.line_is }

-- one piece is written
pub lays_one : (Are : List FieldPiece → Type 0) (line after : Line) (before text : List ℕ) (p : FieldPiece) → Are (p ∷ []) → text ≡ before ++ laid line (p ∷ [])
    → after ≡ next_line line p → Lays Are line before text after
unfolding line_after
lays_one Are line after before text p a e f = record { pieces = p ∷ []; are = a; text_is = e; line_is = f }

-- ---- one piece

pub or_first : (x y : Bool) → x ≡ true → x ≡ (x || y)
or_first true y e = refl
or_first false y e = absurd cc

pub or_second : (x y : Bool) → x ≡ false → y ≡ (x || y)
or_second true y e = absurd cc
or_second false y e = refl

-- what a piece adds to a text, and the line that it ends in
abbrev pub AddsPiece : Line → FieldPiece → List ℕ → List ℕ → Line → Type 0
AddsPiece line p old new after = (new ≡ old ++ laid line (p ∷ [])) × (after ≡ next_line line p)

-- a piece after a space
pub behind : (line : Line) (p : FieldPiece) (old text new : List ℕ) (encoded : Bool) → is_short (line_with line p) ≡ true → text ≡ old ++ 32 ∷ [] → new ≡ text ++ p.text
    → encoded ≡ (line.encoded || p.encoded) → AddsPiece line p old new (record { width = line.width + 1 + length p.text; encoded = encoded })
unfolding laid
behind line p old text new encoded s e f g = (
  f ∙ ap (λ (u : List ℕ). u ++ p.text) e ∙ append_assoc old (32 ∷ []) p.text ∙ ap (λ (u : List ℕ). old ++ 32 ∷ u) (sym (append-nil p.text))
      ∙ ap (λ (b : Bool). old ++ (gap b ++ (p.text ++ []))) (sym s),
  ap (line_so line p) g ∙ ap (λ (b : Bool). cond b (line_with line p) (line_of p)) (sym s),
)
  where
    line_so : Line → FieldPiece → Bool → Line
    line_so l q b = record { width = l.width + 1 + length q.text; encoded = b }

-- a piece on a further line
pub below : (line : Line) (p : FieldPiece) (old text new : List ℕ) → is_short (line_with line p) ≡ false → text ≡ old ++ 13 ∷ 10 ∷ 32 ∷ [] → new ≡ text ++ p.text
    → AddsPiece line p old new (line_of p)
unfolding laid
below line p old text new s e f = (
  f ∙ ap (λ (u : List ℕ). u ++ p.text) e ∙ append_assoc old (13 ∷ 10 ∷ 32 ∷ []) p.text ∙ ap (λ (u : List ℕ). old ++ 13 ∷ 10 ∷ 32 ∷ u) (sym (append-nil p.text))
      ∙ ap (λ (b : Bool). old ++ (gap b ++ (p.text ++ []))) (sym s),
  ap (λ (b : Bool). cond b (line_with line p) (line_of p)) (sym s),
)
