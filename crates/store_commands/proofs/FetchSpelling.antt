-- The parts of UID FETCH are what the grammar says of them.
use Rattle.std.proofs.Common.{◌≡◌, ℕ, ◌≤◌, Bool, true, false, ◌||◌, List, [], ◌∷◌, ◌++◌, cond, refl, sym, ap, subst, ◌∙◌, append_assoc, inl, inr}
use Rattle.std.specs.Prelude.{◌==◌, codes}
use Rattle.std.specs.Fmt.{decimal}
use Rattle.std.proofs.lemmas.Fmt.{decimal_digit}
use Rattle.std.proofs.Common.{arith}
use Rattle.std.proofs.lemmas.Bool.{eqb-true, or_cases, both_ways}
use Rattle.imap_types.specs.declared.command.Command.{Command}
use Rattle.imap_types.specs.declared.command.Command.TheVariants as command
use Rattle.imap_types.specs.Texts.{IsWord, crlf}
use Rattle.store_commands.specs.Requests.{IsHeaderItems}
use Rattle.command_parts.specs.declared.fixed_text.FixedText.{FixedText}
use Rattle.command_parts.specs.declared.fixed_text.FixedText.TheVariants as word
use Rattle.command_parts.specs.declared.fixed_text.Choice.TheVariants as choice
use Rattle.command_parts.specs.reading.FixedTexts.{fixed_text, fixed_texts}
use Rattle.store_commands.specs.reading.Arguments.{fetched_from, fetched_slice, items_from}
use Rattle.command_parts.proofs.Choosing.{OneOf}
use Rattle.command_parts.proofs.Parts.{fixed_word}
use Rattle.store_commands.proofs.FolderSpelling.{then_of, word_join, word_split, sign_word, space_of, line_of, Asks, Spelled}
use Rattle.store_commands.proofs.MessageCommands.{FetchArguments, OpenRange, ClosedRange, Fetched}

-- ---- what is fetched

abbrev header_text : Bool → List ℕ
header_text modseq = cond modseq (codes "(uid flags modseq internaldate rfc822.size body.peek[header]<0.32768>)")
    (codes "(uid flags internaldate rfc822.size body.peek[header]<0.32768>)")

header_items : (modseq : Bool) (q : List ℕ) → IsWord (header_text modseq) q → IsHeaderItems modseq (32 ∷ q)
header_items true q h = ap (λ (u : List ℕ). 32 ∷ u) h
header_items false q h = ap (λ (u : List ℕ). 32 ∷ u) h

-- the items' text and the line's end
items_cut : (a : List ℕ) (t : List ℕ) → IsWord (a ++ crlf) t → (q : List ℕ) × (t ≡ q ++ crlf) × IsWord a q
items_cut a t h = let s = word_split a crlf t h in (s.0, s.2 ∙ ap (λ (u : List ℕ). s.0 ++ u) (line_of s.1 s.4), s.3)

-- headers, or of all messages their flags
data Fetches (uid : ℕ) (c : Command) (t : List ℕ) : Type 0 where
  headers : (modseq : Bool) (q : List ℕ) → c ≡ command.FetchNew uid modseq → t ≡ q ++ crlf → IsWord (header_text modseq) q → Fetches uid c t
  flags : (q : List ℕ) → uid ≡ 1 → c ≡ command.FetchFlags → t ≡ q ++ crlf → IsWord (codes "(uid flags)") q → Fetches uid c t

fetches : (uid : ℕ) (w : FixedText) (t : List ℕ) → OneOf w (fixed_texts (items_from uid)) → IsWord (fixed_text w) t → Fetches uid (fetched_from uid w) t
fetches uid w t one h = by (uid == 1) refl one
  where
    with_modseq : w ≡ word.ItemsWithModseq → Fetches uid (fetched_from uid w) t
    with_modseq e = let s = items_cut (header_text true) t (h ∙ ap fixed_text e) in headers true s.0 (ap (fetched_from uid) e) s.1 s.2

    without : w ≡ word.ItemsWithoutModseq → Fetches uid (fetched_from uid w) t
    without e = let s = items_cut (header_text false) t (h ∙ ap fixed_text e) in headers false s.0 (ap (fetched_from uid) e) s.1 s.2

    by : (a : Bool) → (uid == 1) ≡ a → OneOf w (fixed_texts (cond a choice.AllItems choice.Items)) → Fetches uid (fetched_from uid w) t
    by true f (inl e) = with_modseq e
    by true f (inr (inl e)) = without e
    by true f (inr (inr (inl e))) = let s = items_cut (codes "(uid flags)") t (h ∙ ap fixed_text e) in flags s.0 (eqb-true uid 1 f) (ap (fetched_from uid) e) s.1 s.2
    by true f (inr (inr (inr i))) = absurd i
    by false f (inl e) = with_modseq e
    by false f (inr (inl e)) = without e
    by false f (inr (inr i)) = absurd i

new_asks : (uid : ℕ) (modseq : Bool) (y q r : List ℕ) → IsWord (codes "uid fetch ") y → uid ≤ 4294967295 → IsWord (header_text modseq) q
    → r ≡ y ++ ((decimal uid ++ 58 ∷ []) ++ (42 ∷ 32 ∷ [] ++ (q ++ crlf))) → Asks (command.FetchNew uid modseq) r
new_asks uid modseq y q r w le h e =
    let a = decimal uid in
    then_of (y ++ (a ++ (58 ∷ 42 ∷ [] ++ (32 ∷ q)))) crlf r (e ∙ regroup y a q)
    (then_of y (a ++ (58 ∷ 42 ∷ [] ++ (32 ∷ q))) (y ++ (a ++ (58 ∷ 42 ∷ [] ++ (32 ∷ q)))) refl w
    (then_of a (58 ∷ 42 ∷ [] ++ (32 ∷ q)) (a ++ (58 ∷ 42 ∷ [] ++ (32 ∷ q))) refl (refl, le)
    (then_of (58 ∷ 42 ∷ []) (32 ∷ q) (58 ∷ 42 ∷ [] ++ (32 ∷ q)) refl refl (header_items modseq q h)))) refl
  where
    regroup : (y a q : List ℕ) → y ++ ((a ++ 58 ∷ []) ++ (42 ∷ 32 ∷ [] ++ (q ++ crlf))) ≡ (y ++ (a ++ (58 ∷ 42 ∷ [] ++ (32 ∷ q)))) ++ crlf
    regroup y a q = simp append_assoc

flags_asks : (y q r : List ℕ) → IsWord (codes "uid fetch ") y → IsWord (codes "(uid flags)") q → r ≡ y ++ ((decimal 1 ++ 58 ∷ []) ++ (42 ∷ 32 ∷ [] ++ (q ++ crlf)))
    → Asks command.FetchFlags r
flags_asks y q r w h e =
    then_of (y ++ (49 ∷ 58 ∷ 42 ∷ 32 ∷ [] ++ q)) crlf r (e ∙ ap (λ (v : List ℕ). y ++ ((v ++ 58 ∷ []) ++ (42 ∷ 32 ∷ [] ++ (q ++ crlf)))) (decimal_digit 1 (omega arith))
    ∙ regroup y q)
    (word_join (codes "uid fetch ") (codes "1:* (uid flags)") y (49 ∷ 58 ∷ 42 ∷ 32 ∷ [] ++ q) w (ap (λ (u : List ℕ). 49 ∷ 58 ∷ 42 ∷ 32 ∷ u) h)) refl
  where
    regroup : (y q : List ℕ) → y ++ ((49 ∷ [] ++ 58 ∷ []) ++ (42 ∷ 32 ∷ [] ++ (q ++ crlf))) ≡ (y ++ (49 ∷ 58 ∷ 42 ∷ 32 ∷ [] ++ q)) ++ crlf
    regroup y q = simp append_assoc

slice_asks : (from to : ℕ) (modseq : Bool) (y q r : List ℕ) → IsWord (codes "uid fetch ") y → from ≤ 4294967295 → to ≤ 4294967295 → IsWord (header_text modseq) q
    → r ≡ y ++ ((decimal from ++ 58 ∷ []) ++ ((decimal to ++ 32 ∷ []) ++ (q ++ crlf))) → Asks (command.FetchSlice from to modseq) r
slice_asks from to modseq y q r w le most h e =
    let a = decimal from in
    let b = decimal to in
    let p4 : List ℕ = b ++ (32 ∷ q) in
    let p3 : List ℕ = 58 ∷ [] ++ p4 in
    let p2 : List ℕ = a ++ p3 in
    then_of (y ++ p2) crlf r (e ∙ regroup y a b q)
    (then_of y p2 (y ++ p2) refl w (then_of a p3 p2 refl (refl, le) (then_of (58 ∷ []) p4 p3 refl refl (then_of b (32 ∷ q) p4 refl (refl, most) (header_items modseq q h))))) refl
  where
    regroup : (y a b q : List ℕ) → y ++ ((a ++ 58 ∷ []) ++ ((b ++ 32 ∷ []) ++ (q ++ crlf))) ≡ (y ++ (a ++ (58 ∷ [] ++ (b ++ (32 ∷ q))))) ++ crlf
    regroup y a b q = simp append_assoc

body_asks : (uid : ℕ) (y q r : List ℕ) → IsWord (codes "uid fetch ") y → uid ≤ 4294967295 → IsWord (codes "(uid body.peek[]<0.50000000>)") q
    → r ≡ y ++ ((decimal uid ++ 32 ∷ []) ++ (q ++ crlf)) → Asks (command.FetchBody uid) r
body_asks uid y q r w le h e =
    let a = decimal uid in
    then_of (y ++ (a ++ (32 ∷ q))) crlf r (e ∙ regroup y a q)
    (then_of y (a ++ (32 ∷ q)) (y ++ (a ++ (32 ∷ q))) refl w (then_of a (32 ∷ q) (a ++ (32 ∷ q)) refl (refl, le) (ap (λ (u : List ℕ). 32 ∷ u) h))) refl
  where
    regroup : (y a q : List ℕ) → y ++ ((a ++ 32 ∷ []) ++ (q ++ crlf)) ≡ (y ++ (a ++ (32 ∷ q))) ++ crlf
    regroup y a q = simp append_assoc

-- ---- forth

fetches_asks : (uid : ℕ) (c : Command) (y t r : List ℕ) → IsWord (codes "uid fetch ") y → uid ≤ 4294967295 → Fetches uid c t
    → r ≡ y ++ ((decimal uid ++ 58 ∷ []) ++ (42 ∷ 32 ∷ [] ++ t)) → Asks c r
fetches_asks uid c y t r w le (headers modseq q same cut h) e =
    subst (λ (x : Command). Asks x r) (sym same) (new_asks uid modseq y q r w le h (e ∙ ap (λ (v : List ℕ). y ++ ((decimal uid ++ 58 ∷ []) ++ (42 ∷ 32 ∷ [] ++ v))) cut))
fetches_asks uid c y t r w le (flags q first same cut h) e =
    subst (λ (x : Command). Asks x r) (sym same) (flags_asks y q r w h
    (e ∙ ap (λ (v : List ℕ). y ++ ((decimal uid ++ 58 ∷ []) ++ (42 ∷ 32 ∷ [] ++ v))) cut ∙ ap (λ (n : ℕ). y ++ ((decimal n ++ 58 ∷ []) ++ (42 ∷ 32 ∷ [] ++ (q ++ crlf)))) first))

slice_items : (from to : ℕ) (w : FixedText) (t : List ℕ) → OneOf w (fixed_texts choice.Items) → IsWord (fixed_text w) t
    → (modseq : Bool) × (q : List ℕ) × (fetched_slice from to w ≡ command.FetchSlice from to modseq) × (t ≡ q ++ crlf) × IsWord (header_text modseq) q
slice_items from to w t (inl e) h = let s = items_cut (header_text true) t (h ∙ ap fixed_text e) in (true, s.0, ap (fetched_slice from to) e, s.1, s.2)
slice_items from to w t (inr (inl e)) h = let s = items_cut (header_text false) t (h ∙ ap fixed_text e) in (false, s.0, ap (fetched_slice from to) e, s.1, s.2)
slice_items from to w t (inr (inr i)) h = absurd i

open_asks : (uid : ℕ) (c : Command) (y t r : List ℕ) → IsWord (codes "uid fetch ") y → uid ≤ 4294967295 → OpenRange uid c t → r ≡ y ++ ((decimal uid ++ 58 ∷ []) ++ t) → Asks c r
open_asks uid c y t r w le h e =
    let k = h.1 in
    let s = k.second in
    let star : k.front ≡ 42 ∷ 32 ∷ [] = sign_word (42 ∷ 32 ∷ []) k.front refl (fixed_word word.LastUid h.0 k.front k.first) in
    fetches_asks uid c y k.back r w le (subst (λ (x : Command). Fetches uid x k.back) (sym s.2) (fetches uid s.0 k.back s.1.0 s.1.1))
    (e ∙ ap (λ (v : List ℕ). y ++ ((decimal uid ++ 58 ∷ []) ++ v)) (k.whole ∙ ap (λ (v : List ℕ). v ++ k.back) star))

closed_asks : (uid : ℕ) (c : Command) (y t r : List ℕ) → IsWord (codes "uid fetch ") y → uid ≤ 4294967295 → ClosedRange uid c t → r ≡ y ++ ((decimal uid ++ 58 ∷ []) ++ t)
    → Asks c r
closed_asks uid c y t r w le h e =
    let k = h.1 in
    let n = k.first in
    let s = k.second in
    let i = slice_items uid h.0.0 s.0 k.back s.1.0 s.1.1 in
    let front : k.front ≡ decimal h.0.0 ++ 32 ∷ [] = n.0 ∙ ap (λ (d : ℕ). decimal h.0.0 ++ d ∷ []) (space_of h.0.1 n.2) in
    subst (λ (x : Command). Asks x r) (sym (s.2 ∙ i.2))
    (slice_asks uid h.0.0 i.0 y i.1 r w le n.1 i.4
    (e ∙ ap (λ (v : List ℕ). y ++ ((decimal uid ++ 58 ∷ []) ++ v)) (k.whole ∙ ap (λ (v : List ℕ). v ++ k.back) front ∙ ap (λ (v : List ℕ). (decimal h.0.0 ++ 32 ∷ []) ++ v) i.3)))

pub fetch_forth : (c : Command) (r : List ℕ) → Spelled word.Fetch FetchArguments c r → Asks c r
fetch_forth c r h = by (u.0.1 == 58) refl u.1.second
  where
    u : FetchArguments c h.1
    u = h.4

    all : (d : ℕ) → u.0.1 ≡ d → r ≡ h.0 ++ ((decimal u.0.0 ++ d ∷ []) ++ u.1.back)
    all d e = h.2 ∙ ap (λ (v : List ℕ). h.0 ++ v) (u.1.whole ∙ ap (λ (v : List ℕ). v ++ u.1.back) (u.1.first.0 ∙ ap (λ (i : ℕ). decimal u.0.0 ++ i ∷ []) e))

    space : (c : ℕ) → (c == 58 || c == 32) ≡ true → (c == 58) ≡ false → c ≡ 32
    space c e f = elim (or_cases (c == 58) (c == 32) e) [ inl g ↦ absurd (both_ways (c == 58) f g) | inr g ↦ eqb-true c 32 g ]

    by : (a : Bool) → (u.0.1 == 58) ≡ a → Fetched a u.0.0 c u.1.back → Asks c r
    by true e (inl s) = open_asks u.0.0 c h.0 u.1.back r h.3 u.1.first.1 s (all 58 (eqb-true u.0.1 58 e))
    by true e (inr s) = closed_asks u.0.0 c h.0 u.1.back r h.3 u.1.first.1 s (all 58 (eqb-true u.0.1 58 e))
    by false e s =
        let i = items_cut (codes "(uid body.peek[]<0.50000000>)") u.1.back (fixed_word word.Body s.0 u.1.back s.1) in
        subst (λ (x : Command). Asks x r) (sym s.2)
        (body_asks u.0.0 h.0 i.0 r h.3 u.1.first.1 i.2 (all 32 (space u.0.1 u.1.first.2 e) ∙ ap (λ (v : List ℕ). h.0 ++ ((decimal u.0.0 ++ 32 ∷ []) ++ v)) i.1))

-- ---- back

-- a range without an end
open_spelled : (uid : ℕ) (c : Command) (w : FixedText) (y t r : List ℕ) → IsWord (codes "uid fetch ") y → uid ≤ 4294967295 → OneOf w (fixed_texts (items_from uid))
    → IsWord (fixed_text w) t
    → c ≡ fetched_from uid w → r ≡ y ++ ((decimal uid ++ 58 ∷ []) ++ (42 ∷ 32 ∷ [] ++ t)) → Spelled word.Fetch FetchArguments c r
open_spelled uid c w y t r h le one item same e = (
  y,
  (decimal uid ++ 58 ∷ []) ++ (42 ∷ 32 ∷ [] ++ t),
  e,
  h,
  (
    (uid, 58),
    record {
      front = decimal uid ++ 58 ∷ [];
      back = 42 ∷ 32 ∷ [] ++ t;
      whole = refl;
      first = (refl, le, refl);
      second = inl (
        word.LastUid,
        record {
          front = 42 ∷ 32 ∷ [];
          back = t;
          whole = refl;
          first = (inl refl, refl);
          second = (w, (one, item), same);
        },
      );
    },
  ),
)

one_item : (modseq : Bool) → (w : FixedText) × (fixed_text w ≡ header_text modseq ++ crlf) × ((a : Bool) → OneOf w (fixed_texts (cond a choice.AllItems choice.Items)))
    × ((uid : ℕ) → command.FetchNew uid modseq ≡ fetched_from uid w) × ((from to : ℕ) → command.FetchSlice from to modseq ≡ fetched_slice from to w)
one_item true = (word.ItemsWithModseq, refl, elim [ true ↦ inl refl | false ↦ inl refl ], λ uid. refl, λ from to. refl)
one_item false = (word.ItemsWithoutModseq, refl, elim [ true ↦ inr (inl refl) | false ↦ inr (inl refl) ], λ uid. refl, λ from to. refl)

items_of_text : (modseq : Bool) (t : List ℕ) → IsHeaderItems modseq t → (q : List ℕ) × (t ≡ 32 ∷ q) × IsWord (header_text modseq) q
items_of_text true t h = let s = word_split (32 ∷ []) (header_text true) t h in (s.1, s.2 ∙ ap (λ (v : List ℕ). v ++ s.1) (sign_word (32 ∷ []) s.0 refl s.3), s.4)
items_of_text false t h = let s = word_split (32 ∷ []) (header_text false) t h in (s.1, s.2 ∙ ap (λ (v : List ℕ). v ++ s.1) (sign_word (32 ∷ []) s.0 refl s.3), s.4)

pub new_back : (uid : ℕ) (modseq : Bool) (r : List ℕ) → Asks (command.FetchNew uid modseq) r → Spelled word.Fetch FetchArguments (command.FetchNew uid modseq) r
new_back uid modseq r h =
    let w = h.first in
    let n = w.second in
    let s = n.second in
    let i = items_of_text modseq s.back s.second in
    let k = one_item modseq in
    let star : s.front ≡ 58 ∷ 42 ∷ [] = sign_word (58 ∷ 42 ∷ []) s.front refl s.first in
    let all : r ≡ (w.front ++ (decimal uid ++ (58 ∷ 42 ∷ [] ++ (32 ∷ i.0)))) ++ crlf =
    h.whole ∙ ap (λ (v : List ℕ). v ++ h.back) (w.whole ∙ ap (λ (v : List ℕ). w.front ++ v)
    (n.whole ∙ ap (λ (v : List ℕ). v ++ n.back) n.first.0 ∙ ap (λ (v : List ℕ). decimal uid ++ v)
    (s.whole ∙ ap (λ (v : List ℕ). v ++ s.back) star ∙ ap (λ (v : List ℕ). 58 ∷ 42 ∷ [] ++ v) i.1)))
    ∙ ap (λ (v : List ℕ). (w.front ++ (decimal uid ++ (58 ∷ 42 ∷ [] ++ (32 ∷ i.0)))) ++ v) h.second in
    open_spelled uid (command.FetchNew uid modseq) k.0 w.front (i.0 ++ crlf) r w.first n.first.1 (k.2 (uid == 1)) (word_join (header_text modseq) crlf i.0 crlf i.2 refl ∙ sym k.1)
    (k.3 uid)
    (all ∙ regroup w.front (decimal uid) i.0)
  where
    regroup : (y a q : List ℕ) → (y ++ (a ++ (58 ∷ 42 ∷ [] ++ (32 ∷ q)))) ++ crlf ≡ y ++ ((a ++ 58 ∷ []) ++ (42 ∷ 32 ∷ [] ++ (q ++ crlf)))
    regroup y a q = simp append_assoc

pub flags_back : (r : List ℕ) → Asks command.FetchFlags r → Spelled word.Fetch FetchArguments command.FetchFlags r
flags_back r h =
    let s = word_split (codes "uid fetch ") (codes "1:* (uid flags)") h.front h.first in
    let i = word_split (codes "1:* ") (codes "(uid flags)") s.1 s.4 in
    let one : i.0 ≡ 49 ∷ 58 ∷ 42 ∷ 32 ∷ [] = sign_word (49 ∷ 58 ∷ 42 ∷ 32 ∷ []) i.0 refl i.3 in
    let all : r ≡ (s.0 ++ (49 ∷ 58 ∷ 42 ∷ 32 ∷ [] ++ i.1)) ++ crlf =
    h.whole ∙ ap (λ (v : List ℕ). v ++ h.back) (s.2 ∙ ap (λ (v : List ℕ). s.0 ++ v) (i.2 ∙ ap (λ (v : List ℕ). v ++ i.1) one))
    ∙ ap (λ (v : List ℕ). (s.0 ++ (49 ∷ 58 ∷ 42 ∷ 32 ∷ [] ++ i.1)) ++ v) h.second in
    open_spelled 1 command.FetchFlags word.FlagsOnly s.0 (i.1 ++ crlf) r s.3 (omega arith) (inr (inr (inl refl))) (word_join (codes "(uid flags)") crlf i.1 crlf i.4 refl) refl
    (all ∙ regroup s.0 i.1 ∙ ap (λ (v : List ℕ). s.0 ++ ((v ++ 58 ∷ []) ++ (42 ∷ 32 ∷ [] ++ (i.1 ++ crlf)))) (sym (decimal_digit 1 (omega arith))))
  where
    regroup : (y q : List ℕ) → (y ++ (49 ∷ 58 ∷ 42 ∷ 32 ∷ [] ++ q)) ++ crlf ≡ y ++ ((49 ∷ [] ++ 58 ∷ []) ++ (42 ∷ 32 ∷ [] ++ (q ++ crlf)))
    regroup y q = simp append_assoc

pub slice_back : (from to : ℕ) (modseq : Bool) (r : List ℕ) → Asks (command.FetchSlice from to modseq) r → Spelled word.Fetch FetchArguments (command.FetchSlice from to modseq) r
slice_back from to modseq r h =
    let w = h.first in
    let n = w.second in
    let s = n.second in
    let m = s.second in
    let i = items_of_text modseq m.back m.second in
    let k = one_item modseq in
    let a = decimal from in
    let b = decimal to in
    let colon : s.front ≡ 58 ∷ [] = sign_word (58 ∷ []) s.front refl s.first in
    let all : r ≡ (w.front ++ (a ++ (58 ∷ [] ++ (b ++ (32 ∷ i.0))))) ++ crlf =
    h.whole ∙ ap (λ (v : List ℕ). v ++ h.back) (w.whole ∙ ap (λ (v : List ℕ). w.front ++ v) (n.whole ∙ ap (λ (v : List ℕ). v ++ n.back) n.first.0 ∙ ap (λ (v : List ℕ). a ++ v)
    (s.whole ∙ ap (λ (v : List ℕ). v ++ s.back) colon ∙ ap (λ (v : List ℕ). 58 ∷ [] ++ v) (m.whole ∙ ap (λ (v : List ℕ). v ++ m.back) m.first.0
    ∙ ap (λ (v : List ℕ). b ++ v) i.1))))
    ∙ ap (λ (v : List ℕ). (w.front ++ (a ++ (58 ∷ [] ++ (b ++ (32 ∷ i.0))))) ++ v) h.second in (
      w.front,
      (a ++ 58 ∷ []) ++ ((b ++ 32 ∷ []) ++ (i.0 ++ crlf)),
      all ∙ regroup w.front a b i.0,
      w.first,
      (
        (from, 58),
        record {
          front = a ++ 58 ∷ [];
          back = (b ++ 32 ∷ []) ++ (i.0 ++ crlf);
          whole = refl;
          first = (refl, n.first.1, refl);
          second = inr (
            (to, 32),
            record {
              front = b ++ 32 ∷ [];
              back = i.0 ++ crlf;
              whole = refl;
              first = (refl, m.first.1, refl);
              second = (k.0, (k.2 false, word_join (header_text modseq) crlf i.0 crlf i.2 refl ∙ sym k.1), k.4 from to);
            },
          );
        },
      ),
    )
  where
    regroup : (y a b q : List ℕ) → (y ++ (a ++ (58 ∷ [] ++ (b ++ (32 ∷ q))))) ++ crlf ≡ y ++ ((a ++ 58 ∷ []) ++ ((b ++ 32 ∷ []) ++ (q ++ crlf)))
    regroup y a b q = simp append_assoc

pub body_back : (uid : ℕ) (r : List ℕ) → Asks (command.FetchBody uid) r → Spelled word.Fetch FetchArguments (command.FetchBody uid) r
body_back uid r h =
    let w = h.first in
    let n = w.second in
    let a = decimal uid in
    let i = word_split (32 ∷ []) (codes "(uid body.peek[]<0.50000000>)") n.back n.second in
    let items : n.back ≡ 32 ∷ i.1 = i.2 ∙ ap (λ (v : List ℕ). v ++ i.1) (sign_word (32 ∷ []) i.0 refl i.3) in
    let all : r ≡ (w.front ++ (a ++ (32 ∷ i.1))) ++ crlf =
    h.whole ∙ ap (λ (v : List ℕ). v ++ h.back) (w.whole ∙ ap (λ (v : List ℕ). w.front ++ v)
    (n.whole ∙ ap (λ (v : List ℕ). v ++ n.back) n.first.0 ∙ ap (λ (v : List ℕ). a ++ v) items))
    ∙ ap (λ (v : List ℕ). (w.front ++ (a ++ (32 ∷ i.1))) ++ v) h.second in (
      w.front,
      (a ++ 32 ∷ []) ++ (i.1 ++ crlf),
      all ∙ regroup w.front a i.1,
      w.first,
      (
        (uid, 32),
        record {
          front = a ++ 32 ∷ [];
          back = i.1 ++ crlf;
          whole = refl;
          first = (refl, n.first.1, refl);
          second = (word.Body, (inl refl, word_join (codes "(uid body.peek[]<0.50000000>)") crlf i.1 crlf i.4 refl), refl);
        },
      ),
    )
  where
    regroup : (y a q : List ℕ) → (y ++ (a ++ (32 ∷ q))) ++ crlf ≡ y ++ ((a ++ 32 ∷ []) ++ (q ++ crlf))
    regroup y a q = simp append_assoc
