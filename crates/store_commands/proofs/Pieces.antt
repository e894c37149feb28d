-- The pieces in which a command is sent, as texts in which literals show.
use Rattle.std.proofs.Common.{◌≡◌, ℕ, ◌≤◌, List, [], ◌∷◌, ◌++◌, length, refl, sym, ap, ◌∙◌, append_assoc, arith}
use Rattle.std.specs.Fmt.{decimal}
use Rattle.std.proofs.lemmas.List.{append-nil, map-append}
use Rattle.imap_types.proofs.EachLemmas.{each_to, each_append}
use Rattle.imap_types.specs.Octets.{is_digit}
use Rattle.imap_types.specs.Texts.{crlf, plain_of, plain_octets, literal_limit}
use Rattle.imap_types.specs.Commands.{Part, Plain, Literal, literal_head, put_before, pieces_of, joined_pieces}
use Rattle.imap_values.proofs.Cuts.{plain_small, digit_small}
use Rattle.command_parts.specs.Fields.{fits_octet, AreOctets, EndsWithHead}
use Rattle.command_parts.proofs.Readers.{some_cons, more_before}
use Rattle.command_parts.proofs.Literals.{marked, plain_marked}
use Rattle.command_parts.proofs.Heads.{digits_are, front_head}

-- a part as it stands in a text
abbrev pub part_text : Part → List ℕ
part_text (Plain t) = t
part_text (Literal t) = literal_head t ++ marked t

abbrev pub parts_text : List Part → List ℕ
parts_text [] = []
parts_text (p ∷ ps) = part_text p ++ parts_text ps

-- the part's octets are octets as they are sent, and a literal has at most the limit
abbrev pub IsSendable : Part → Type 0
IsSendable (Plain t) = AreOctets t
IsSendable (Literal t) = AreOctets t × (length t ≤ literal_limit)

abbrev pub AllSendable : List Part → Type 0
AllSendable [] = Unit {0}
AllSendable (p ∷ ps) = IsSendable p × AllSendable ps

-- ---- octets of parts

head_small : (t : List ℕ) → length t ≤ literal_limit → AreOctets (literal_head t)
head_small t le = (
  refl,
  each_append fits_octet (decimal (length t)) (125 ∷ crlf) (each_to is_digit fits_octet (decimal (length t)) digit_small (digits_are (length t) (omega (arith, le))))
      (refl, (refl, (refl, tt))),
)

plain_join : (x y : List ℕ) → plain_octets (x ++ y) ≡ plain_octets x ++ plain_octets y
plain_join x y = map-append plain_of x y

plain_head : (t : List ℕ) → length t ≤ literal_limit → plain_octets (literal_head t) ≡ literal_head t
plain_head t le = plain_small (literal_head t) (head_small t le)

plain_literal : (t : List ℕ) → length t ≤ literal_limit → plain_octets (literal_head t ++ marked t) ≡ literal_head t ++ t
plain_literal t le =
    plain_join (literal_head t) (marked t) ∙ ap (λ (u : List ℕ). u ++ plain_octets (marked t)) (plain_head t le) ∙ ap (λ (u : List ℕ). literal_head t ++ u) (plain_marked t)

-- ---- pieces, one after another

joined_put : (s : List ℕ) (ps : List (List ℕ)) → joined_pieces (put_before s ps) ≡ s ++ joined_pieces ps
joined_put s [] = refl
joined_put s (p ∷ ps) = append_assoc s p (joined_pieces ps)

-- the pieces are the octets of the text and the line's end
pub parts_plain : (ps : List Part) → AllSendable ps → plain_octets (parts_text ps) ++ crlf ≡ joined_pieces (pieces_of ps)
parts_plain [] h = refl
parts_plain (Plain t ∷ ps) h =
    ap (λ (u : List ℕ). u ++ crlf) (plain_join t (parts_text ps) ∙ ap (λ (u : List ℕ). u ++ plain_octets (parts_text ps)) (plain_small t h.0))
    ∙ append_assoc t (plain_octets (parts_text ps)) crlf ∙ ap (λ (u : List ℕ). t ++ u) (parts_plain ps h.1) ∙ sym (joined_put t (pieces_of ps))
parts_plain (Literal t ∷ ps) h =
    ap (λ (u : List ℕ). u ++ crlf) (plain_join (literal_head t ++ marked t) (parts_text ps) ∙ ap (λ (u : List ℕ). u ++ plain_octets (parts_text ps)) (plain_literal t h.0.1))
    ∙ append_assoc (literal_head t ++ t) (plain_octets (parts_text ps)) crlf ∙ ap (λ (u : List ℕ). (literal_head t ++ t) ++ u) (parts_plain ps h.1)
    ∙ append_assoc (literal_head t) t (joined_pieces (pieces_of ps)) ∙ ap (λ (u : List ℕ). literal_head t ++ u) (sym (joined_put t (pieces_of ps)))

-- ---- pieces but the last

-- a text and what follows it, cut where the first pieces end
pub record Cut (ps : List Part) (sent : List (List ℕ)) : Type 0 where
  pub text : List ℕ
  pub more : List ℕ
  pub whole : parts_text ps ++ crlf ≡ text ++ more
  pub octets : plain_octets text ≡ joined_pieces sent
  pub head : EndsWithHead text
  pub proper : more ≡ [] → ⊥

-- the pieces without what was put before the first
record Taken (t : List ℕ) (xs sent left : List (List ℕ)) : Type 0 where
  first : List ℕ
  rest : List (List ℕ)
  whole : xs ≡ (first ∷ rest) ++ left
  same : joined_pieces sent ≡ t ++ joined_pieces (first ∷ rest)

taken : (t : List ℕ) (xs : List (List ℕ)) (s : List ℕ) (sent left : List (List ℕ)) → put_before t xs ≡ (s ∷ sent) ++ left → (left ≡ [] → ⊥) → Taken t xs (s ∷ sent) left
taken t [] s sent left e some = let none : [] ≡ sent ++ left = cc in absurd (nothing sent none)
  where
    nothing : (sent : List (List ℕ)) → [] ≡ sent ++ left → ⊥
    nothing [] e = some (sym e)
    nothing (x ∷ xs) e = cc
taken t (p ∷ qs) s sent left e some =
    let first : t ++ p ≡ s = cc in
    let rest : qs ≡ sent ++ left = cc in
    record {
      first = p;
      rest = sent;
      whole = ap (λ (u : List (List ℕ)). p ∷ u) rest;
      same = ap (λ (u : List ℕ). u ++ joined_pieces sent) (sym first) ∙ append_assoc t p (joined_pieces sent);
    }

-- a part more in front
cut_behind : (p : Part) (x : List ℕ) (ps : List Part) (sent rest : List (List ℕ)) → plain_octets (part_text p) ≡ x → joined_pieces sent ≡ x ++ joined_pieces rest → Cut ps rest
    → Cut (p ∷ ps) sent
cut_behind p x ps sent rest plain same c = record {
  text = part_text p ++ c.text;
  more = c.more;
  whole = append_assoc (part_text p) (parts_text ps) crlf ∙ ap (λ (u : List ℕ). part_text p ++ u) c.whole ∙ sym (append_assoc (part_text p) c.text c.more);
  octets = plain_join (part_text p) c.text ∙ ap (λ (u : List ℕ). u ++ plain_octets c.text) plain ∙ ap (λ (u : List ℕ). x ++ u) c.octets ∙ sym same;
  head = front_head (part_text p) c.text (part_text p ++ c.text) refl c.head;
  proper = c.proper;
}

-- pieces up to the head of a literal
cut_head : (t : List ℕ) (ps : List Part) (s : List ℕ) → length t ≤ literal_limit → literal_head t ≡ s → Cut (Literal t ∷ ps) (s ∷ [])
cut_head t ps s le e = record {
  text = literal_head t;
  more = marked t ++ (parts_text ps ++ crlf);
  whole = append_assoc (literal_head t ++ marked t) (parts_text ps) crlf ∙ append_assoc (literal_head t) (marked t) (parts_text ps ++ crlf);
  octets = plain_head t le ∙ e ∙ sym (append-nil s);
  head = ([], decimal (length t), digits_are (length t) (omega (arith, le)), refl);
  proper = more_before (marked t) (parts_text ps ++ crlf) (more_before (parts_text ps) crlf (some_cons 13 (10 ∷ [])));
}

-- the pieces but the last end with the head of a literal
pub cut_at : (ps : List Part) (s : List ℕ) (sent left : List (List ℕ)) → AllSendable ps → pieces_of ps ≡ (s ∷ sent) ++ left → (left ≡ [] → ⊥) → Cut ps (s ∷ sent)
cut_at [] s sent left h e some = let none : [] ≡ sent ++ left = cc in absurd (nothing sent none)
  where
    nothing : (sent : List (List ℕ)) → [] ≡ sent ++ left → ⊥
    nothing [] e = some (sym e)
    nothing (x ∷ xs) e = cc
cut_at (Plain t ∷ ps) s sent left h e some =
    let k = taken t (pieces_of ps) s sent left e some in
    cut_behind (Plain t) t ps (s ∷ sent) (k.first ∷ k.rest) (plain_small t h.0) k.same (cut_at ps k.first k.rest left h.1 k.whole some)
cut_at (Literal t ∷ ps) s [] left h e some = let first : literal_head t ≡ s = cc in cut_head t ps s h.0.1 first
cut_at (Literal t ∷ ps) s (r ∷ sent) left h e some =
    let first : literal_head t ≡ s = cc in
    let rest : put_before t (pieces_of ps) ≡ (r ∷ sent) ++ left = cc in
    let k = taken t (pieces_of ps) r sent left rest some in
    let same : joined_pieces (s ∷ r ∷ sent) ≡ (literal_head t ++ t) ++ joined_pieces (k.first ∷ k.rest) =
    ap (λ (u : List ℕ). u ++ joined_pieces (r ∷ sent)) (sym first) ∙ ap (λ (u : List ℕ). literal_head t ++ u) k.same
    ∙ sym (append_assoc (literal_head t) t (joined_pieces (k.first ∷ k.rest))) in
    cut_behind (Literal t) (literal_head t ++ t) ps (s ∷ r ∷ sent) (k.first ∷ k.rest) (plain_literal t h.0.1) same (cut_at ps k.first k.rest left h.1 k.whole some)
