-- Parts of a command make its pieces.
use Rattle.std.proofs.Common.{◌≡◌, ℕ, List, [], ◌∷◌, ◌++◌, codes, refl, sym, ap, ◌∙◌}
use Rattle.std.specs.Prelude.{ℤ}
use Rattle.std.proofs.lemmas.List.{append_assoc}
use Rattle.imap_types.specs.declared.command.Command.{Command}
use Rattle.imap_types.specs.declared.command.Command.TheVariants.{Capability, Login, Enable, List as ListFolders, Select, Unselect, FetchFlags, FetchSlice, FetchNew, FetchBody}
use Rattle.imap_types.specs.declared.command.Command.TheVariants.{Store, Move, Expunge, Append, Create, Delete, Rename, Subscribe}
use Rattle.imap_types.specs.Commands.{Plain, Literal, tag_of, credential, put_before, pieces_of, parts_of, words_of, command_pieces}
use Rattle.imap_types.specs.Texts.{crlf}
use Rattle.imap_commands.specs.reading.Written.{AddsPart}

put_twice : (s t : List ℕ) (pieces : List (List ℕ)) → put_before s (put_before t pieces) ≡ put_before (s ++ t) pieces
put_twice s t [] = refl
put_twice s t (p ∷ ps) = ap (λ q. q ∷ ps) (sym (append_assoc s t p))

-- a command but LOGIN and APPEND has no literal
has_words : (c : Command) → ((user password : List ℕ) → c ≡ Login user password → ⊥)
    → ((name : List ℕ) (flags : List (List ℕ)) (date : ℤ) (message : List ℕ) → c ≡ Append name flags date message → ⊥) → parts_of c ≡ Plain (words_of c) ∷ []
has_words Capability other another = refl
has_words (Login user password) other another = absurd (other user password refl)
has_words Enable other another = refl
has_words (ListFolders special_use) other another = refl
has_words (Select name known) other another = refl
has_words Unselect other another = refl
has_words FetchFlags other another = refl
has_words (FetchSlice from to modseq) other another = refl
has_words (FetchNew from modseq) other another = refl
has_words (FetchBody uid) other another = refl
has_words (Store uid add flags) other another = refl
has_words (Move uid name) other another = refl
has_words (Expunge uid) other another = refl
has_words (Append name flags date message) other another = absurd (another name flags date message refl)
has_words (Create name) other another = refl
has_words (Delete name) other another = refl
has_words (Rename from to) other another = refl
has_words (Subscribe name on) other another = refl

-- its text is its only piece
pub one_piece : (c : Command) (tag : ℕ) → ((user password : List ℕ) → c ≡ Login user password → ⊥)
    → ((name : List ℕ) (flags : List (List ℕ)) (date : ℤ) (message : List ℕ) → c ≡ Append name flags date message → ⊥)
    → (tag_of tag ++ 32 ∷ words_of c ++ crlf) ∷ [] ≡ command_pieces c tag
one_piece c tag other another =
    ap (λ text. text ∷ []) (append_assoc (tag_of tag) (32 ∷ words_of c) crlf ∙ sym (append_assoc (tag_of tag) (32 ∷ []) (words_of c ++ crlf)))
    ∙ ap (λ parts. put_before (tag_of tag ++ 32 ∷ []) (pieces_of parts)) (sym (has_words c other another))

-- the pieces of an APPEND
pub append_pieces : (tag : ℕ) (words message : List ℕ) (after : List (List ℕ)) (begun with_message : List ℕ)
    → begun ≡ tag_of tag ++ 32 ∷ words → AddsPart (Literal message) [] begun after with_message
    → after ++ (with_message ++ crlf) ∷ [] ≡ put_before (tag_of tag ++ 32 ∷ []) (pieces_of (Plain words ∷ Literal message ∷ []))
append_pieces tag words message after begun with_message first adds =
    let last = pieces_of (Literal message ∷ []) in
    adds []
    ∙ ap (λ t. put_before t last) (first ∙ sym (append_assoc (tag_of tag) (32 ∷ []) words))
    ∙ sym (put_twice (tag_of tag ++ 32 ∷ []) words last)

-- the pieces of a LOGIN
pub login_pieces : (tag : ℕ) (user password : List ℕ) (after_user after_both : List (List ℕ)) (begun with_user with_both : List ℕ)
    → begun ≡ tag_of tag ++ codes " LOGIN " → AddsPart (credential user) [] begun after_user with_user
    → AddsPart (credential password) after_user (with_user ++ 32 ∷ []) after_both with_both
    → after_both ++ (with_both ++ crlf) ∷ [] ≡ command_pieces (Login user password) tag
login_pieces tag user password after_user after_both begun with_user with_both first adds_user adds_password =
    let last = pieces_of (credential password ∷ []) in
    let behind_user = Plain (32 ∷ []) ∷ credential password ∷ [] in
    let all = pieces_of (credential user ∷ behind_user) in
    adds_password []
    ∙ ap (λ ps. after_user ++ ps) (sym (put_twice with_user (32 ∷ []) last))
    ∙ adds_user behind_user
    ∙ ap (λ t. put_before t all) (first ∙ sym (append_assoc (tag_of tag) (32 ∷ []) (codes "LOGIN ")))
    ∙ sym (put_twice (tag_of tag ++ 32 ∷ []) (codes "LOGIN ") all)
