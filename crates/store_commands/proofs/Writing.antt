-- What is written is read as the command that was given.
use Rattle.std.proofs.Common.{◌≡◌, ℕ, ◌+◌, ◌-◌, ◌*◌, ◌/◌, ◌%◌, ◌<◌, ◌≤◌, Bool, true, false, List, [], ◌∷◌, ◌++◌, length, cond, Some, None, refl, sym, ap, subst, ◌∙◌, append_assoc}
use Rattle.std.proofs.Common.{arith, inl, inr}
use Rattle.std.specs.Prelude.{codes, ℤ}
use Rattle.std.specs.List.{list_all}
use Rattle.std.specs.Fmt.{decimal}
use Rattle.std.proofs.lemmas.Fmt.{decimal_by_steps, length-decimal-le, decimal_nonempty}
use Rattle.std.proofs.lemmas.List.{append-nil, map-append, length-append, length-map, take_at}
use Rattle.imap_types.proofs.EachLemmas.{each_to, each_append, each_all}
use Rattle.imap_types.specs.declared.command.Command.{Command}
use Rattle.imap_types.specs.declared.command.Command.TheVariants as command
use Rattle.imap_types.specs.Octets.{is_digit, is_alnum, is_text}
use Rattle.imap_types.specs.Texts.{Each, crlf, plain_of}
use Rattle.imap_types.specs.Numbers.{value_from}
use Rattle.imap_types.specs.Strings.{quoted, IsCounted}
use Rattle.imap_types.specs.Dates.{date_text}
use Rattle.imap_types.specs.Commands.{Part, Plain, Literal, tag_of, flags_text, header_items, known_text, is_printable, credential, words_of, parts_of, literal_head}
use Rattle.imap_types.specs.Commands.{command_pieces, joined_pieces, command_text}
use Rattle.command_parts.specs.Fields.{fits_octet, AreOctets, IsTag, IsFolderName, IsCredential}
use Rattle.command_parts.proofs.Literals.{marked, marked_inside, plain_marked}
use Rattle.command_parts.proofs.Heads.{digits_are, others_small, folder_others, flags_others, date_others}
use Rattle.honest_store.specs.WellFormed.{nearest_date}
use Rattle.store_commands.specs.Requests.{IsHeaderItems, IsRequest, IsCommandText}
use Rattle.store_commands.specs.Answers.{IsCommand, IsReadAs}
use Rattle.store_commands.specs.Written.{IsPlainCredential, IsLiteralString, IsReadable, as_sent}
use Rattle.store_commands.specs.declared.command_read.CommandRead.TheVariants.{Whole, WantsLiteral}
use Rattle.store_commands.proofs.RequestHeads.{IsPlain, request_others}
use Rattle.store_commands.proofs.FolderSpelling.{then_of}
use Rattle.store_commands.proofs.FlagWriting.{flags_written}
use Rattle.store_commands.proofs.DateWriting.{date_written}
use Rattle.store_commands.proofs.Pieces.{part_text, parts_text, IsSendable, AllSendable, parts_plain, cut_at}

-- ---- numbers and tags

digit_alnum : (c : ℕ) → is_digit c ≡ true → is_alnum c ≡ true
digit_alnum c e = grind arith

alnum_small : (c : ℕ) → is_alnum c ≡ true → fits_octet c ≡ true
alnum_small c e = grind arith

tag_is : (n : ℕ) → n < 18446744073709551616 → IsTag (tag_of n)
tag_is n lt =
    let long = length-decimal-le 20 n (omega arith) (omega (arith, lt)) (omega (arith, lt)) in
    ((refl, each_to is_digit is_alnum (decimal n) digit_alnum (digits_are n lt)), omega arith, omega (arith, long))

value_push : (ds : List ℕ) (v c : ℕ) → value_from v (ds ++ c ∷ []) ≡ 10 * value_from v ds + (c - 48)
value_push [] v c = refl
value_push (d ∷ ds) v c = value_push ds (10 * v + (d - 48)) c

-- the digits of a number make it
value_decimal : (n : ℕ) → n < 18446744073709551616 → value_from 0 (decimal n) ≡ n
value_decimal n lt = decimal_by_steps (λ n ds. value_from 0 ds ≡ n) one more n lt
  where
    one : (n : ℕ) → n < 10 → value_from 0 ((48 + n) ∷ []) ≡ n
    one n small = omega arith

    more : (n : ℕ) (ds : List ℕ) → 10 ≤ n → value_from 0 ds ≡ n / 10 → value_from 0 (ds ++ (48 + n % 10) ∷ []) ≡ n
    more n ds ten ih = value_push ds 0 (48 + n % 10) ∙ omega (arith, ih)

-- ---- users, passwords and literals

counted_is : (s : List ℕ) → IsLiteralString s → IsCounted s (literal_head s ++ marked s)
counted_is s h =
    let lt : length s < 18446744073709551616 = omega (arith, h.1) in
    let long = length-map s (λ c. c + 256) in
    record {
      digits = decimal (length s);
      octets = marked s;
      whole = ap (λ (u : List ℕ). 123 ∷ u) (append_assoc (decimal (length s)) (125 ∷ crlf) (marked s));
      are_digits = digits_are (length s) lt;
      some = decimal_nonempty (length s) lt;
      few = length-decimal-le 8 (length s) (omega arith) (omega (arith, h.1)) lt;
      counted = long ∙ sym (value_decimal (length s) lt);
      most = omega (arith, long, h.1);
      inside = marked_inside s h.0;
      string = sym (plain_marked s);
    }

printable_text : (c : ℕ) → is_printable c ≡ true → is_text c ≡ true
printable_text c e = grind arith

quoted_is : (s : List ℕ) → Each is_text s → IsFolderName s (quoted s)
quoted_is s h = inr (h, refl)

quoted_small : (s : List ℕ) → Each is_text s → AreOctets (quoted s)
quoted_small s h = others_small (quoted s) (folder_others s (quoted s) (quoted_is s h))

credential_is : (s : List ℕ) → IsPlainCredential s → IsCredential s (part_text (credential s)) × IsSendable (credential s)
credential_is s h = by (list_all is_printable s) refl h
  where
    by : (b : Bool) → list_all is_printable s ≡ b → IsPlainCredential s
        → IsCredential s (part_text (cond b (Plain (quoted s)) (Literal s))) × IsSendable (cond b (Plain (quoted s)) (Literal s))
    by true e k =
        let text = each_to is_printable is_text s printable_text (each_all is_printable s e) in
        (inl (quoted_is s text), quoted_small s text)
    by false e (inl f) = let g : false ≡ true = sym e ∙ f in absurd cc
    by false e (inr l) = (inr (counted_is s l), l)

-- ---- requests

items_are : (modseq : Bool) → IsHeaderItems modseq (header_items modseq)
items_are true = refl
items_are false = refl

three : (w a s i : List ℕ) → ((w ++ a) ++ s) ++ i ≡ w ++ (a ++ (s ++ i))
three w a s i = append_assoc (w ++ a) s i ∙ append_assoc w a (s ++ i)

-- the parts of a command ask it, as it is sent
abbrev IsAsked : Command → List Part → Type 0
IsAsked c ps = IsRequest c (parts_text ps) × AllSendable ps

plain_asked : (c : Command) → IsPlain c → IsRequest c (words_of c) → IsAsked c (Plain (words_of c) ∷ [])
plain_asked c p h = (subst (IsRequest c) (sym (append-nil (words_of c))) h, (others_small (words_of c) (request_others c (words_of c) p h), tt))

login_asked : (user password : List ℕ) → IsPlainCredential user → IsPlainCredential password → IsAsked (command.Login user password) (parts_of (command.Login user password))
login_asked user password h k =
    let u = credential_is user h in
    let p = credential_is password k in
    let last : List ℕ = part_text (credential password) ++ [] in (
      then_of (codes "LOGIN ") (part_text (credential user) ++ (32 ∷ [] ++ last)) (parts_text (parts_of (command.Login user password))) refl refl
          (then_of (part_text (credential user)) (32 ∷ [] ++ last) (part_text (credential user) ++ (32 ∷ [] ++ last)) refl u.0
          (then_of (32 ∷ []) last (32 ∷ [] ++ last) refl refl (subst (IsCredential password) (sym (append-nil (part_text (credential password)))) p.0))),
      (each_all fits_octet (codes "LOGIN ") refl, (u.1, ((refl, tt), (p.1, tt)))),
    )

append_asked : (name : List ℕ) (flags : List (List ℕ)) (date : ℤ) (message : List ℕ) → IsReadable (command.Append name flags date message)
    → IsAsked (as_sent (command.Append name flags date message)) (parts_of (command.Append name flags date message))
append_asked name flags date message h =
    let f = flags_written flags h.1 in
    let d = date_written date in
    let q : List ℕ = quoted name in
    let l : List ℕ = literal_head message ++ marked message in
    let t6 : List ℕ = 32 ∷ [] ++ l in
    let t5 : List ℕ = date_text date ++ t6 in
    let t4 : List ℕ = 32 ∷ [] ++ t5 in
    let t3 : List ℕ = flags_text flags ++ t4 in
    let t2 : List ℕ = 32 ∷ [] ++ t3 in
    let t1 : List ℕ = q ++ t2 in (
      then_of (codes "APPEND ") t1 (parts_text (parts_of (command.Append name flags date message))) (regroup (codes "APPEND ") q (flags_text flags) (date_text date) l) refl
          (then_of q t2 t1 refl (quoted_is name h.0)
          (then_of (32 ∷ []) t3 t2 refl refl
          (then_of (flags_text flags) t4 t3 refl f
          (then_of (32 ∷ []) t5 t4 refl refl
          (then_of (date_text date) t6 t5 refl d (then_of (32 ∷ []) l t6 refl refl (counted_is message h.2))))))),
      (
        each_append fits_octet (((codes "APPEND " ++ q) ++ 32 ∷ flags_text flags) ++ 32 ∷ date_text date) (32 ∷ [])
            (each_append fits_octet ((codes "APPEND " ++ q) ++ 32 ∷ flags_text flags) (32 ∷ date_text date)
            (each_append fits_octet (codes "APPEND " ++ q) (32 ∷ flags_text flags)
            (each_append fits_octet (codes "APPEND ") q (each_all fits_octet (codes "APPEND ") refl) (quoted_small name h.0))
            (refl, others_small (flags_text flags) (flags_others flags (flags_text flags) f)))
            (refl, others_small (date_text date) (date_others (nearest_date date) (date_text date) d))) (refl, tt),
        (h.2, tt),
      ),
    )
  where
    regroup : (a q f d l : List ℕ) → ((((a ++ q) ++ 32 ∷ f) ++ 32 ∷ d) ++ 32 ∷ []) ++ (l ++ []) ≡ a ++ (q ++ (32 ∷ [] ++ (f ++ (32 ∷ [] ++ (d ++ (32 ∷ [] ++ l))))))
    regroup a q f d l = simp (append_assoc, append-nil)

asked : (c : Command) → IsReadable c → IsAsked (as_sent c) (parts_of c)
asked command.Capability h = plain_asked command.Capability tt refl
asked (command.Login user password) h = login_asked user password h.0 h.1
asked command.Enable h = plain_asked command.Enable tt refl
asked (command.List false) h = plain_asked (command.List false) tt
    (then_of (codes "LIST \"\" ") (codes "\"*\" RETURN (SUBSCRIBED)") (words_of (command.List false)) refl refl
    (then_of (codes "\"*\"") (codes " RETURN (SUBSCRIBED)") (codes "\"*\" RETURN (SUBSCRIBED)") refl (inl refl) (inr refl)))
asked (command.List true) h = plain_asked (command.List true) tt
    (then_of (codes "LIST \"\" ") (codes "\"*\" RETURN (SUBSCRIBED SPECIAL-USE)") (words_of (command.List true)) refl refl
    (then_of (codes "\"*\"") (codes " RETURN (SUBSCRIBED SPECIAL-USE)") (codes "\"*\" RETURN (SUBSCRIBED SPECIAL-USE)") refl (inl refl) refl))
asked (command.Select name None) h = plain_asked (command.Select name None) tt
    (then_of (codes "SELECT ") (quoted name ++ []) (words_of (command.Select name None)) (append_assoc (codes "SELECT ") (quoted name) []) refl
    (then_of (quoted name) [] (quoted name ++ []) refl (quoted_is name h.0) refl))
asked (command.Select name (Some known)) h =
    let t4 : List ℕ = decimal known.1 ++ codes "))" in
    let t3 : List ℕ = 32 ∷ t4 in
    let t2 : List ℕ = decimal known.0 ++ t3 in
    let t1 : List ℕ = known_text (Some known) in
    plain_asked (command.Select name (Some known)) tt
    (then_of (codes "SELECT ") (quoted name ++ t1) (words_of (command.Select name (Some known))) (append_assoc (codes "SELECT ") (quoted name) t1) refl
    (then_of (quoted name) t1 (quoted name ++ t1) refl (quoted_is name h.0)
    (then_of (codes " (QRESYNC (") t2 t1 (three (codes " (QRESYNC (") (decimal known.0) (32 ∷ decimal known.1) (codes "))")) refl
    (then_of (decimal known.0) t3 t2 refl (refl, h.1.0) (then_of (32 ∷ []) t4 t3 refl refl (then_of (decimal known.1) (codes "))") t4 refl (refl, h.1.1) refl))))))
asked command.Unselect h = plain_asked command.Unselect tt refl
asked command.FetchFlags h = plain_asked command.FetchFlags tt refl
asked (command.FetchSlice from to modseq) h =
    let t3 : List ℕ = decimal to ++ header_items modseq in
    let t2 : List ℕ = 58 ∷ t3 in
    plain_asked (command.FetchSlice from to modseq) tt
    (then_of (codes "UID FETCH ") (decimal from ++ t2) (words_of (command.FetchSlice from to modseq))
    (three (codes "UID FETCH ") (decimal from) (58 ∷ decimal to) (header_items modseq)) refl
    (then_of (decimal from) t2 (decimal from ++ t2) refl (refl, h.0)
    (then_of (58 ∷ []) t3 t2 refl refl (then_of (decimal to) (header_items modseq) t3 refl (refl, h.1) (items_are modseq)))))
asked (command.FetchNew from modseq) h =
    let t2 : List ℕ = codes ":*" ++ header_items modseq in
    plain_asked (command.FetchNew from modseq) tt
    (then_of (codes "UID FETCH ") (decimal from ++ t2) (words_of (command.FetchNew from modseq))
    (three (codes "UID FETCH ") (decimal from) (codes ":*") (header_items modseq)) refl
    (then_of (decimal from) t2 (decimal from ++ t2) refl (refl, h) (then_of (codes ":*") (header_items modseq) t2 refl refl (items_are modseq))))
asked (command.FetchBody uid) h =
    let t2 : List ℕ = codes " (UID BODY.PEEK[]<0.50000000>)" in
    plain_asked (command.FetchBody uid) tt
    (then_of (codes "UID FETCH ") (decimal uid ++ t2) (words_of (command.FetchBody uid)) (append_assoc (codes "UID FETCH ") (decimal uid) t2) refl
    (then_of (decimal uid) t2 (decimal uid ++ t2) refl (refl, h) refl))
asked (command.Store uid true flags) h =
    let t2 : List ℕ = codes " +FLAGS " ++ flags_text flags in
    plain_asked (command.Store uid true flags) tt
    (then_of (codes "UID STORE ") (decimal uid ++ t2) (words_of (command.Store uid true flags))
    (three (codes "UID STORE ") (decimal uid) (codes " +FLAGS ") (flags_text flags)) refl
    (then_of (decimal uid) t2 (decimal uid ++ t2) refl (refl, h.0) (then_of (codes " +FLAGS ") (flags_text flags) t2 refl refl (flags_written flags h.1))))
asked (command.Store uid false flags) h =
    let t2 : List ℕ = codes " -FLAGS " ++ flags_text flags in
    plain_asked (command.Store uid false flags) tt
    (then_of (codes "UID STORE ") (decimal uid ++ t2) (words_of (command.Store uid false flags))
    (three (codes "UID STORE ") (decimal uid) (codes " -FLAGS ") (flags_text flags)) refl
    (then_of (decimal uid) t2 (decimal uid ++ t2) refl (refl, h.0) (then_of (codes " -FLAGS ") (flags_text flags) t2 refl refl (flags_written flags h.1))))
asked (command.Move uid name) h =
    let t2 : List ℕ = 32 ∷ quoted name in
    plain_asked (command.Move uid name) tt
    (then_of (codes "UID MOVE ") (decimal uid ++ t2) (words_of (command.Move uid name)) (append_assoc (codes "UID MOVE ") (decimal uid) t2) refl
    (then_of (decimal uid) t2 (decimal uid ++ t2) refl (refl, h.0) (then_of (32 ∷ []) (quoted name) t2 refl refl (quoted_is name h.1))))
asked (command.Expunge uid) h = plain_asked (command.Expunge uid) tt (then_of (codes "UID EXPUNGE ") (decimal uid) (words_of (command.Expunge uid)) refl refl (refl, h))
asked (command.Append name flags date message) h = append_asked name flags date message h
asked (command.Create name) h = plain_asked (command.Create name) tt (then_of (codes "CREATE ") (quoted name) (words_of (command.Create name)) refl refl (quoted_is name h))
asked (command.Delete name) h = plain_asked (command.Delete name) tt (then_of (codes "DELETE ") (quoted name) (words_of (command.Delete name)) refl refl (quoted_is name h))
asked (command.Rename from to) h =
    let t2 : List ℕ = 32 ∷ quoted to in
    plain_asked (command.Rename from to) tt
    (then_of (codes "RENAME ") (quoted from ++ t2) (words_of (command.Rename from to)) (append_assoc (codes "RENAME ") (quoted from) t2) refl
    (then_of (quoted from) t2 (quoted from ++ t2) refl (quoted_is from h.0) (then_of (32 ∷ []) (quoted to) t2 refl refl (quoted_is to h.1))))
asked (command.Subscribe name true) h =
    plain_asked (command.Subscribe name true) tt (then_of (codes "SUBSCRIBE ") (quoted name) (words_of (command.Subscribe name true)) refl refl (quoted_is name h))
asked (command.Subscribe name false) h =
    plain_asked (command.Subscribe name false) tt (then_of (codes "UNSUBSCRIBE ") (quoted name) (words_of (command.Subscribe name false)) refl refl (quoted_is name h))

-- ---- commands

-- the parts, with the tag before them
abbrev all_parts : Command → ℕ → List Part
all_parts c n = Plain (tag_of n ++ 32 ∷ []) ∷ parts_of c

all_sendable : (c : Command) (n : ℕ) → n < 18446744073709551616 → IsReadable c → AllSendable (all_parts c n)
all_sendable c n lt h =
    (each_append fits_octet (tag_of n) (32 ∷ []) (each_to is_alnum fits_octet (tag_of n) alnum_small (tag_is n lt).0) (refl, tt), (asked c h).1)

text_is : (c : Command) (n : ℕ) → n < 18446744073709551616 → IsReadable c → IsCommandText (tag_of n) (as_sent c) (parts_text (all_parts c n) ++ crlf)
text_is c n lt h =
    let body : List ℕ = parts_text (parts_of c) in
    record {
      rest = body ++ crlf;
      whole = append_assoc (tag_of n ++ 32 ∷ []) body crlf ∙ append_assoc (tag_of n) (32 ∷ []) (body ++ crlf);
      tag_is = tag_is n lt;
      asks = then_of body crlf (body ++ crlf) refl (asked c h).0 refl;
    }

-- the whole text is a spelling of the command as it is sent
written : (c : Command) (n : ℕ) → n < 18446744073709551616 → IsReadable c → IsCommand (tag_of n) (as_sent c) (command_text c n)
written c n lt h = record {
  text = parts_text (all_parts c n) ++ crlf;
  reads = text_is c n lt h;
  octets = map-append plain_of (parts_text (all_parts c n)) crlf ∙ parts_plain (all_parts c n) (all_sendable c n lt h);
}

pub written_read : (c : Command) (n : ℕ) (more : List ℕ) → n < 18446744073709551616 → IsReadable c
    → IsReadAs (command_text c n ++ more) (Whole (length (command_text c n)) (tag_of n) (as_sent c))
written_read c n more lt h =
    let t : List ℕ = command_text c n in
    let long = length-append t more in
    (omega (arith, long), subst (IsCommand (tag_of n) (as_sent c)) (sym (take_at t more (length t) refl)) (written c n lt h))

-- pieces but the last want a literal
pub pieces_want : (c : Command) (n : ℕ) (sent left : List (List ℕ)) → n < 18446744073709551616 → IsReadable c → command_pieces c n ≡ sent ++ left → (sent ≡ [] → ⊥)
    → (left ≡ [] → ⊥)
    → IsReadAs (joined_pieces sent) WantsLiteral
pieces_want c n [] left lt h e some more = absurd (some refl)
pieces_want c n (s ∷ sent) left lt h e some more =
    let k = cut_at (all_parts c n) s sent left (all_sendable c n lt h) e more in (
      record {
        tag = tag_of n;
        command = as_sent c;
        text = k.text;
        more = k.more;
        reads = subst (IsCommandText (tag_of n) (as_sent c)) k.whole (text_is c n lt h);
        octets = k.octets;
        proper = k.proper;
      },
      k.head,
    )
