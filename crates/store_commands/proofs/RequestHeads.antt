-- In a command's text an LF before the end is that of a literal's head.
use Rattle.std.proofs.Common.{◌≡◌, ℕ, Bool, true, false, List, [], ◌∷◌, ◌++◌, Option, Some, None, refl, sym, ap, ◌∙◌, append_assoc, arith, inl, inr}
use Rattle.std.specs.Prelude.{◌==◌, codes}
use Rattle.std.proofs.lemmas.List.{append-nil}
use Rattle.imap_types.proofs.EachLemmas.{each_to}
use Rattle.imap_types.specs.declared.command.Command.{Command}
use Rattle.imap_types.specs.declared.command.Command.TheVariants as command
use Rattle.imap_types.specs.Octets.{is_alnum}
use Rattle.imap_types.specs.Texts.{Each, crlf}
use Rattle.command_parts.specs.Fields.{EndsWithHead, IsSpace, IsUnsigned}
use Rattle.command_parts.proofs.Readers.{ends_with_line, ends_append, seam, more_before}
use Rattle.command_parts.proofs.Heads.{Headed, is_other, join_headed, then_headed, then_others, other_headed, exact_others, alnum_other, word_other, number_others}
use Rattle.command_parts.proofs.Heads.{folder_others, credential_headed, counted_headed, flags_others, date_others}
use Rattle.store_commands.specs.Requests.{IsAnyName, IsReturn, IsSelectParameter, IsHeaderItems, IsRequest, IsCommandText}

space_others : (x : List ℕ) → IsSpace x → Each is_other x
space_others x h = exact_others (32 ∷ []) x refl h

unsigned_others : (n : ℕ) (x : List ℕ) → IsUnsigned n x → Each is_other x
unsigned_others n x h = number_others 4294967295 n x (omega arith) h

any_others : (x : List ℕ) → IsAnyName x → Each is_other x
any_others x (inl h) = exact_others (codes "\"*\"") x refl h
any_others x (inr h) = exact_others (codes "*") x refl h

return_others : (special_use : Bool) (x : List ℕ) → IsReturn special_use x → Each is_other x
return_others false x (inl h) = exact_others [] x refl h
return_others false x (inr h) = word_other (codes " return (subscribed)") x refl h
return_others true x h = word_other (codes " return (subscribed special-use)") x refl h

parameter_others : (known : Option (ℕ × ℕ)) (x : List ℕ) → IsSelectParameter known x → Each is_other x
parameter_others None x h = exact_others [] x refl h
parameter_others (Some known) x h =
    then_others x h (λ x k. word_other (codes " (qresync (") x refl k)
    (λ x k. then_others x k (unsigned_others known.0)
    (λ x k. then_others x k space_others
    (λ x k. then_others x k (λ x k. number_others 18446744073709551615 known.1 x (omega arith) k) (λ x k. word_other (codes "))") x refl k))))

items_others : (modseq : Bool) (x : List ℕ) → IsHeaderItems modseq x → Each is_other x
items_others true x h = word_other (codes " (uid flags modseq internaldate rfc822.size body.peek[header]<0.32768>)") x refl h
items_others false x h = word_other (codes " (uid flags internaldate rfc822.size body.peek[header]<0.32768>)") x refl h

-- the commands that have no literal
abbrev pub IsPlain : Command → Type 0
IsPlain (command.Login user password) = ⊥
IsPlain (command.Append name flags date message) = ⊥
IsPlain c = Unit {0}

pub request_others : (c : Command) (t : List ℕ) → IsPlain c → IsRequest c t → Each is_other t
request_others command.Capability t p h = word_other (codes "capability") t refl h
request_others (command.Login user password) t p h = absurd p
request_others command.Enable t p h = word_other (codes "enable qresync imap4rev2") t refl h
request_others (command.List special_use) t p h =
    then_others t h (λ x k. word_other (codes "list \"\" ") x refl k) (λ x k. then_others x k any_others (return_others special_use))
request_others (command.Select name known) t p h =
    then_others t h (λ x k. word_other (codes "select ") x refl k) (λ x k. then_others x k (folder_others name) (parameter_others known))
request_others command.Unselect t p h = word_other (codes "unselect") t refl h
request_others command.FetchFlags t p h = word_other (codes "uid fetch 1:* (uid flags)") t refl h
request_others (command.FetchSlice from to modseq) t p h =
    then_others t h (λ x k. word_other (codes "uid fetch ") x refl k)
    (λ x k. then_others x k (unsigned_others from)
    (λ x k. then_others x k (λ x k. word_other (codes ":") x refl k) (λ x k. then_others x k (unsigned_others to) (items_others modseq))))
request_others (command.FetchNew from modseq) t p h =
    then_others t h (λ x k. word_other (codes "uid fetch ") x refl k)
    (λ x k. then_others x k (unsigned_others from) (λ x k. then_others x k (λ x k. word_other (codes ":*") x refl k) (items_others modseq)))
request_others (command.FetchBody uid) t p h =
    then_others t h (λ x k. word_other (codes "uid fetch ") x refl k)
    (λ x k. then_others x k (unsigned_others uid) (λ x k. word_other (codes " (uid body.peek[]<0.50000000>)") x refl k))
request_others (command.Store uid true flags) t p h =
    then_others t h (λ x k. word_other (codes "uid store ") x refl k)
    (λ x k. then_others x k (unsigned_others uid) (λ x k. then_others x k (λ x k. word_other (codes " +flags ") x refl k) (flags_others flags)))
request_others (command.Store uid false flags) t p h =
    then_others t h (λ x k. word_other (codes "uid store ") x refl k)
    (λ x k. then_others x k (unsigned_others uid) (λ x k. then_others x k (λ x k. word_other (codes " -flags ") x refl k) (flags_others flags)))
request_others (command.Move uid name) t p h =
    then_others t h (λ x k. word_other (codes "uid move ") x refl k)
    (λ x k. then_others x k (unsigned_others uid) (λ x k. then_others x k space_others (folder_others name)))
request_others (command.Expunge uid) t p h = then_others t h (λ x k. word_other (codes "uid expunge ") x refl k) (unsigned_others uid)
request_others (command.Append name flags date message) t p h = absurd p
request_others (command.Create name) t p h = then_others t h (λ x k. word_other (codes "create ") x refl k) (folder_others name)
request_others (command.Delete name) t p h = then_others t h (λ x k. word_other (codes "delete ") x refl k) (folder_others name)
request_others (command.Rename from to) t p h =
    then_others t h (λ x k. word_other (codes "rename ") x refl k)
    (λ x k. then_others x k (folder_others from) (λ x k. then_others x k space_others (folder_others to)))
request_others (command.Subscribe name true) t p h = then_others t h (λ x k. word_other (codes "subscribe ") x refl k) (folder_others name)
request_others (command.Subscribe name false) t p h = then_others t h (λ x k. word_other (codes "unsubscribe ") x refl k) (folder_others name)

space_headed : (x : List ℕ) → IsSpace x → Headed x
space_headed x h = other_headed x (space_others x h)

request_headed : (c : Command) (t : List ℕ) → IsRequest c t → Headed t
request_headed (command.Login user password) t h =
    then_headed t h (λ x k. other_headed x (word_other (codes "login ") x refl k))
    (λ x k. then_headed x k (credential_headed user) (λ x k. then_headed x k space_headed (credential_headed password)))
request_headed (command.Append name flags date message) t h =
    then_headed t h (λ x k. other_headed x (word_other (codes "append ") x refl k))
    (λ x k. then_headed x k (λ x k. other_headed x (folder_others name x k))
    (λ x k. then_headed x k space_headed
    (λ x k. then_headed x k (λ x k. other_headed x (flags_others flags x k))
    (λ x k. then_headed x k space_headed
    (λ x k. then_headed x k (λ x k. other_headed x (date_others date x k)) (λ x k. then_headed x k space_headed (counted_headed message)))))))
request_headed command.Capability t h = other_headed t (request_others command.Capability t tt h)
request_headed command.Enable t h = other_headed t (request_others command.Enable t tt h)
request_headed (command.List special_use) t h = other_headed t (request_others (command.List special_use) t tt h)
request_headed (command.Select name known) t h = other_headed t (request_others (command.Select name known) t tt h)
request_headed command.Unselect t h = other_headed t (request_others command.Unselect t tt h)
request_headed command.FetchFlags t h = other_headed t (request_others command.FetchFlags t tt h)
request_headed (command.FetchSlice from to modseq) t h = other_headed t (request_others (command.FetchSlice from to modseq) t tt h)
request_headed (command.FetchNew from modseq) t h = other_headed t (request_others (command.FetchNew from modseq) t tt h)
request_headed (command.FetchBody uid) t h = other_headed t (request_others (command.FetchBody uid) t tt h)
request_headed (command.Store uid add flags) t h = other_headed t (request_others (command.Store uid add flags) t tt h)
request_headed (command.Move uid name) t h = other_headed t (request_others (command.Move uid name) t tt h)
request_headed (command.Expunge uid) t h = other_headed t (request_others (command.Expunge uid) t tt h)
request_headed (command.Create name) t h = other_headed t (request_others (command.Create name) t tt h)
request_headed (command.Delete name) t h = other_headed t (request_others (command.Delete name) t tt h)
request_headed (command.Rename from to) t h = other_headed t (request_others (command.Rename from to) t tt h)
request_headed (command.Subscribe name on) t h = other_headed t (request_others (command.Subscribe name on) t tt h)

-- a front of a command that ends with an LF ends with a literal's head
pub front_headed : (tag : List ℕ) (c : Command) (t more : List ℕ) → IsCommandText tag c (t ++ more) → (more ≡ [] → ⊥) → ends_with_line t ≡ true → EndsWithHead t
front_headed tag c t more h proper line = elim (seam t more x crlf cut) [
  | inl s ↦ headed t (s.0 ∷ s.1) s.2 line
  | inr s ↦ behind s.0 s.1 s.2
]
  where
    x : List ℕ
    x = (tag ++ 32 ∷ []) ++ h.asks.front

    headed : Headed x
    headed = join_headed (tag ++ 32 ∷ []) h.asks.front
        (join_headed tag (32 ∷ []) (other_headed tag (each_to is_alnum is_other tag alnum_other h.tag_is.0)) (space_headed (32 ∷ []) refl))
        (request_headed c h.asks.front h.asks.first)

    cut : t ++ more ≡ x ++ crlf
    cut =
        h.whole ∙ ap (λ (u : List ℕ). tag ++ 32 ∷ u) (h.asks.whole ∙ ap (λ (u : List ℕ). h.asks.front ++ u) h.asks.second)
        ∙ sym (append_assoc (tag ++ 32 ∷ []) h.asks.front crlf ∙ append_assoc tag (32 ∷ []) (h.asks.front ++ crlf))

    behind : (z : List ℕ) → t ≡ x ++ z → crlf ≡ z ++ more → EndsWithHead t
    behind [] f g = headed t [] (sym (append-nil x) ∙ sym f ∙ sym (append-nil t)) line
    behind (d ∷ []) f g =
        let first : 13 ≡ d = cc in
        let last : (13 == 10) ≡ true = ap (λ (n : ℕ). n == 10) first ∙ sym (ends_append x d []) ∙ ap ends_with_line (sym f) ∙ line in
        absurd cc
    behind (d ∷ e ∷ z) f g = let rest : [] ≡ z ++ more = cc in absurd (more_before z more proper (sym rest))
