-- The parts of commands on users and folders are what the grammar says of them.
use Rattle.std.proofs.Common.{◌≡◌, ℕ, Bool, true, false, ◌&&◌, not, List, [], ◌∷◌, ◌++◌, map, refl, sym, ap, subst, ◌∙◌, append_assoc, arith, inl, inr}
use Rattle.std.specs.Prelude.{◌⊎◌, nat_le, codes}
use Rattle.std.specs.List.{list_all}
use Rattle.std.proofs.lemmas.Bool.{eqb-true, and_parts}
use Rattle.std.proofs.lemmas.List.{map-append, append-nil}
use Rattle.imap_types.specs.declared.command.Command.{Command}
use Rattle.imap_types.specs.declared.command.Command.TheVariants as command
use Rattle.imap_types.specs.Octets.{lower}
use Rattle.imap_types.specs.Texts.{Then, IsWord, crlf, IsCrlf}
use Rattle.command_parts.specs.Fields.{◌▷◌, IsFolderName}
use Rattle.store_commands.specs.Requests.{IsAnyName, IsReturn, IsRequest}
use Rattle.command_parts.specs.declared.follow.Follow.TheVariants as follow
use Rattle.command_parts.specs.declared.fixed_text.FixedText.{FixedText}
use Rattle.command_parts.specs.declared.fixed_text.FixedText.TheVariants as word
use Rattle.command_parts.specs.reading.FixedTexts.{fixed_text}
use Rattle.command_parts.specs.reading.Lexemes.{may_follow}
use Rattle.command_parts.proofs.Branches.{Nothing}
use Rattle.command_parts.proofs.Parts.{fixed_word, line_feed}
use Rattle.store_commands.proofs.FolderCommands.{LoginArguments, Named, RenameArguments}

-- ---- words

pub then_of : {A B : List ℕ → Type 0} (x y t : List ℕ) → t ≡ x ++ y → A x → B y → Then A B t
then_of x y t e a b = record { front = x; back = y; whole = e; first = a; second = b }

-- a spelling of two words is one of each
pub word_split : (a b t : List ℕ) → IsWord (a ++ b) t → (x y : List ℕ) × (t ≡ x ++ y) × IsWord a x × IsWord b y
word_split [] b t e = ([], t, refl, refl, e)
word_split (c ∷ a) b [] e = absurd cc
word_split (c ∷ a) b (d ∷ t) e =
    let first : lower d ≡ c = cc in
    let r = word_split a b t cc in
    (d ∷ r.0, r.1, ap (λ (u : List ℕ). d ∷ u) r.2, ap (λ (n : ℕ). n ∷ map lower r.0) first ∙ ap (λ (u : List ℕ). c ∷ u) r.3, r.4)

pub word_join : (a b x y : List ℕ) → IsWord a x → IsWord b y → IsWord (a ++ b) (x ++ y)
word_join a b x y e f = map-append lower x y ∙ ap (λ (u : List ℕ). u ++ map lower y) e ∙ ap (λ (u : List ℕ). a ++ u) f

-- octets that no letter spells
abbrev pub is_sign : ℕ → Bool
is_sign c = not (nat_le 97 c && nat_le c 122)

sign_octet : (c x : ℕ) → is_sign x ≡ true → lower c ≡ x → c ≡ x
sign_octet c x s e = grind arith

-- a word without letters is spelled by itself alone
pub sign_word : (w t : List ℕ) → list_all is_sign w ≡ true → IsWord w t → t ≡ w
sign_word [] [] s e = refl
sign_word [] (c ∷ t) s e = absurd cc
sign_word (x ∷ w) [] s e = absurd cc
sign_word (x ∷ w) (c ∷ t) s e =
    let parts = and_parts (is_sign x) (list_all is_sign w) s in
    let first : lower c ≡ x = cc in
    ap (λ (n : ℕ). n ∷ t) (sign_octet c x parts.0 first) ∙ ap (λ (u : List ℕ). x ∷ u) (sign_word w t parts.1 cc)

pub line_of : (t : List ℕ) → IsWord crlf t → t ≡ crlf
line_of t e = sign_word crlf t refl e

pub space_of : (c : ℕ) → may_follow follow.Space c ≡ true → c ≡ 32
space_of c e = eqb-true c 32 e

pub carriage_of : (c : ℕ) → may_follow follow.Line c ≡ true → c ≡ 13
carriage_of c e = eqb-true c 13 e

-- a request and the line's end
abbrev pub Asks : Command → List ℕ → Type 0
Asks c = IsRequest c ▷ IsCrlf

-- what is asked spelled by the text of a command and what follows it
abbrev pub Spelled : FixedText → (Command → List ℕ → Type 0) → Command → List ℕ → Type 0
Spelled w L c r = (y z : List ℕ) × (r ≡ y ++ z) × IsWord (fixed_text w) y × L c z

-- ---- commands without arguments

fixed_forth : (a : List ℕ) (d c : Command) (r y z : List ℕ) → r ≡ y ++ z → IsWord (a ++ crlf) y → Nothing d c z → ((x : List ℕ) → IsWord a x → IsRequest d x) → Asks c r
fixed_forth a d c r y z e w none k =
    let s = word_split a crlf y w in
    subst (λ (x : Command). Asks x r) (sym none.0)
    (then_of s.0 crlf r (e ∙ ap (λ (u : List ℕ). y ++ u) none.1 ∙ append-nil y ∙ s.2 ∙ ap (λ (u : List ℕ). s.0 ++ u) (line_of s.1 s.4)) (k s.0 s.3) refl)

fixed_back : (a : List ℕ) (w : FixedText) (d : Command) (x r : List ℕ) → fixed_text w ≡ a ++ crlf → r ≡ x ++ crlf → IsWord a x → Spelled w (Nothing d) d r
fixed_back a w d x r same e h = (r, [], sym (append-nil r), ap (map lower) e ∙ word_join a crlf x crlf h refl ∙ sym same, (refl, refl))

-- ---- LOGIN

pub login_forth : (c : Command) (r : List ℕ) → Spelled word.Login LoginArguments c r → Asks c r
login_forth c r h =
    let y = h.0 in
    let u = h.4 in
    let p = u.1.second in
    let k = p.1.second in
    let a = u.1.first in
    let b = p.1.first in
    let feed = line_feed p.1.back (fixed_word word.LineFeed k.0 p.1.back k.1) in
    let front : u.1.front ≡ a.string ++ 32 ∷ [] = a.whole ∙ ap (λ (n : ℕ). a.string ++ n ∷ []) (space_of a.stop a.may) in
    let middle : p.1.front ≡ b.string ++ 13 ∷ [] = b.whole ∙ ap (λ (n : ℕ). b.string ++ n ∷ []) (carriage_of b.stop b.may) in
    let all : r ≡ y ++ ((a.string ++ 32 ∷ []) ++ ((b.string ++ 13 ∷ []) ++ 10 ∷ [])) =
    h.2 ∙ ap (λ (v : List ℕ). y ++ v)
    (u.1.whole ∙ ap (λ (v : List ℕ). v ++ u.1.back) front ∙ ap (λ (v : List ℕ). (a.string ++ 32 ∷ []) ++ v)
    (p.1.whole ∙ ap (λ (v : List ℕ). v ++ p.1.back) middle ∙ ap (λ (v : List ℕ). (b.string ++ 13 ∷ []) ++ v) feed)) in
    let text : List ℕ = y ++ (a.string ++ (32 ∷ [] ++ b.string)) in
    subst (λ (x : Command). Asks x r) (sym k.2)
    (then_of text crlf r (all ∙ regroup y a.string b.string)
    (then_of y (a.string ++ (32 ∷ [] ++ b.string)) text refl h.3
    (then_of a.string (32 ∷ [] ++ b.string) (a.string ++ (32 ∷ [] ++ b.string)) refl a.is (then_of (32 ∷ []) b.string (32 ∷ [] ++ b.string) refl refl b.is))) refl)
  where
    regroup : (y a b : List ℕ) → y ++ ((a ++ 32 ∷ []) ++ ((b ++ 13 ∷ []) ++ 10 ∷ [])) ≡ (y ++ (a ++ (32 ∷ [] ++ b))) ++ crlf
    regroup y a b = simp append_assoc

pub login_back : (u p r : List ℕ) → Asks (command.Login u p) r → Spelled word.Login LoginArguments (command.Login u p) r
login_back u p r h =
    let w = h.first in
    let a = w.second in
    let s = a.second in
    let x = a.front in
    let y = s.back in
    let all : r ≡ (w.front ++ (x ++ (32 ∷ [] ++ y))) ++ crlf =
    h.whole ∙ ap (λ (v : List ℕ). v ++ h.back) (w.whole ∙ ap (λ (v : List ℕ). w.front ++ v) (a.whole ∙ ap (λ (v : List ℕ). x ++ v) (s.whole ∙ ap (λ (v : List ℕ). v ++ y) s.first)))
    ∙ ap (λ (v : List ℕ). (w.front ++ (x ++ (32 ∷ [] ++ y))) ++ v) h.second in (
      w.front,
      (x ++ 32 ∷ []) ++ ((y ++ 13 ∷ []) ++ 10 ∷ []),
      all ∙ regroup w.front x y,
      w.first,
      (
        u,
        record {
          front = x ++ 32 ∷ [];
          back = (y ++ 13 ∷ []) ++ 10 ∷ [];
          whole = refl;
          first = record { string = x; stop = 32; whole = refl; is = a.first; may = refl };
          second = (
            p,
            record {
              front = y ++ 13 ∷ [];
              back = 10 ∷ [];
              whole = refl;
              first = record { string = y; stop = 13; whole = refl; is = s.second; may = refl };
              second = (word.LineFeed, (inl refl, refl), refl);
            },
          );
        },
      ),
    )
  where
    regroup : (w x y : List ℕ) → (w ++ (x ++ (32 ∷ [] ++ y))) ++ crlf ≡ w ++ ((x ++ 32 ∷ []) ++ ((y ++ 13 ∷ []) ++ 10 ∷ []))
    regroup w x y = simp append_assoc

-- ---- commands of one name

named_forth : (w : FixedText) (g : List ℕ → Command) (c : Command) (r : List ℕ) → ((s x y t : List ℕ) → t ≡ y ++ x → IsWord (fixed_text w) y → IsFolderName s x → IsRequest (g s) t)
    → Spelled w (Named g) c r → Asks c r
named_forth w g c r k h =
    let n = h.4.1 in
    subst (λ (x : Command). Asks x r) (sym h.4.2)
    (then_of (h.0 ++ n.0) crlf r (h.2 ∙ ap (λ (u : List ℕ). h.0 ++ u) n.1 ∙ sym (append_assoc h.0 n.0 crlf)) (k h.4.0 n.0 h.0 (h.0 ++ n.0) refl h.3 n.2) refl)

named_back : (w : FixedText) (g : List ℕ → Command) (s x y t back r : List ℕ) → r ≡ t ++ back → back ≡ crlf → t ≡ y ++ x → IsWord (fixed_text w) y → IsFolderName s x
    → Spelled w (Named g) (g s) r
named_back w g s x y t back r e line cut h name =
    (y, x ++ crlf, e ∙ ap (λ (u : List ℕ). u ++ back) cut ∙ append_assoc y x back ∙ ap (λ (u : List ℕ). y ++ (x ++ u)) line, h, (s, (x, refl, name), refl))

pub create_forth : (c : Command) (r : List ℕ) → Spelled word.Create (Named command.Create) c r → Asks c r
create_forth c r h = named_forth word.Create command.Create c r (λ s x y t e k name. then_of y x t e k name) h

pub create_back : (s r : List ℕ) → Asks (command.Create s) r → Spelled word.Create (Named command.Create) (command.Create s) r
create_back s r h = named_back word.Create command.Create s h.first.back h.first.front h.front h.back r h.whole h.second h.first.whole h.first.first h.first.second

pub delete_forth : (c : Command) (r : List ℕ) → Spelled word.Delete (Named command.Delete) c r → Asks c r
delete_forth c r h = named_forth word.Delete command.Delete c r (λ s x y t e k name. then_of y x t e k name) h

pub delete_back : (s r : List ℕ) → Asks (command.Delete s) r → Spelled word.Delete (Named command.Delete) (command.Delete s) r
delete_back s r h = named_back word.Delete command.Delete s h.first.back h.first.front h.front h.back r h.whole h.second h.first.whole h.first.first h.first.second

pub subscribe_forth : (c : Command) (r : List ℕ) → Spelled word.Subscribe (Named (λ s. command.Subscribe s true)) c r → Asks c r
subscribe_forth c r h = named_forth word.Subscribe (λ s. command.Subscribe s true) c r (λ s x y t e k name. then_of y x t e k name) h

pub subscribe_back : (s r : List ℕ) → Asks (command.Subscribe s true) r → Spelled word.Subscribe (Named (λ s. command.Subscribe s true)) (command.Subscribe s true) r
subscribe_back s r h =
    named_back word.Subscribe (λ s. command.Subscribe s true) s h.first.back h.first.front h.front h.back r h.whole h.second h.first.whole h.first.first h.first.second

pub unsubscribe_forth : (c : Command) (r : List ℕ) → Spelled word.Unsubscribe (Named (λ s. command.Subscribe s false)) c r → Asks c r
unsubscribe_forth c r h = named_forth word.Unsubscribe (λ s. command.Subscribe s false) c r (λ s x y t e k name. then_of y x t e k name) h

pub unsubscribe_back : (s r : List ℕ) → Asks (command.Subscribe s false) r → Spelled word.Unsubscribe (Named (λ s. command.Subscribe s false)) (command.Subscribe s false) r
unsubscribe_back s r h =
    named_back word.Unsubscribe (λ s. command.Subscribe s false) s h.first.back h.first.front h.front h.back r h.whole h.second h.first.whole h.first.first h.first.second

-- ---- RENAME

pub rename_forth : (c : Command) (r : List ℕ) → Spelled word.Rename RenameArguments c r → Asks c r
rename_forth c r h =
    let y = h.0 in
    let u = h.4 in
    let a = u.1.first in
    let n = u.1.second.1 in
    let front : u.1.front ≡ a.0 ++ 32 ∷ [] = a.1 ∙ ap (λ (d : ℕ). a.0 ++ d ∷ []) (space_of u.0.1 a.3) in
    let text : List ℕ = y ++ (a.0 ++ (32 ∷ [] ++ n.0)) in
    let all : r ≡ y ++ ((a.0 ++ 32 ∷ []) ++ (n.0 ++ crlf)) =
    h.2 ∙ ap (λ (v : List ℕ). y ++ v) (u.1.whole ∙ ap (λ (v : List ℕ). v ++ u.1.back) front ∙ ap (λ (v : List ℕ). (a.0 ++ 32 ∷ []) ++ v) n.1) in
    subst (λ (x : Command). Asks x r) (sym u.1.second.2)
    (then_of text crlf r (all ∙ regroup y a.0 n.0)
    (then_of y (a.0 ++ (32 ∷ [] ++ n.0)) text refl h.3
    (then_of a.0 (32 ∷ [] ++ n.0) (a.0 ++ (32 ∷ [] ++ n.0)) refl a.2 (then_of (32 ∷ []) n.0 (32 ∷ [] ++ n.0) refl refl n.2))) refl)
  where
    regroup : (y a b : List ℕ) → y ++ ((a ++ 32 ∷ []) ++ (b ++ crlf)) ≡ (y ++ (a ++ (32 ∷ [] ++ b))) ++ crlf
    regroup y a b = simp append_assoc

pub rename_back : (from to r : List ℕ) → Asks (command.Rename from to) r → Spelled word.Rename RenameArguments (command.Rename from to) r
rename_back from to r h =
    let w = h.first in
    let a = w.second in
    let s = a.second in
    let x = a.front in
    let y = s.back in
    let all : r ≡ (w.front ++ (x ++ (32 ∷ [] ++ y))) ++ crlf =
    h.whole ∙ ap (λ (v : List ℕ). v ++ h.back) (w.whole ∙ ap (λ (v : List ℕ). w.front ++ v) (a.whole ∙ ap (λ (v : List ℕ). x ++ v) (s.whole ∙ ap (λ (v : List ℕ). v ++ y) s.first)))
    ∙ ap (λ (v : List ℕ). (w.front ++ (x ++ (32 ∷ [] ++ y))) ++ v) h.second in (
      w.front,
      (x ++ 32 ∷ []) ++ (y ++ crlf),
      all ∙ regroup w.front x y,
      w.first,
      (
        (from, 32),
        record {
          front = x ++ 32 ∷ [];
          back = y ++ crlf;
          whole = refl;
          first = (x, refl, a.first, refl);
          second = (to, (y, refl, s.second), refl);
        },
      ),
    )
  where
    regroup : (w x y : List ℕ) → (w ++ (x ++ (32 ∷ [] ++ y))) ++ crlf ≡ w ++ ((x ++ 32 ∷ []) ++ (y ++ crlf))
    regroup w x y = simp append_assoc

-- ---- CAPABILITY, ENABLE, UNSELECT, LIST

pub capability_forth : (c : Command) (r : List ℕ) → Spelled word.Capability (Nothing command.Capability) c r → Asks c r
capability_forth c r h = fixed_forth (codes "capability") command.Capability c r h.0 h.1 h.2 h.3 h.4 (λ x e. e)

pub capability_back : (r : List ℕ) → Asks command.Capability r → Spelled word.Capability (Nothing command.Capability) command.Capability r
capability_back r h = fixed_back (codes "capability") word.Capability command.Capability h.front r refl (h.whole ∙ ap (λ (u : List ℕ). h.front ++ u) h.second) h.first

pub enable_forth : (c : Command) (r : List ℕ) → Spelled word.Enable (Nothing command.Enable) c r → Asks c r
enable_forth c r h = fixed_forth (codes "enable qresync imap4rev2") command.Enable c r h.0 h.1 h.2 h.3 h.4 (λ x e. e)

pub enable_back : (r : List ℕ) → Asks command.Enable r → Spelled word.Enable (Nothing command.Enable) command.Enable r
enable_back r h = fixed_back (codes "enable qresync imap4rev2") word.Enable command.Enable h.front r refl (h.whole ∙ ap (λ (u : List ℕ). h.front ++ u) h.second) h.first

pub unselect_forth : (c : Command) (r : List ℕ) → Spelled word.Unselect (Nothing command.Unselect) c r → Asks c r
unselect_forth c r h = fixed_forth (codes "unselect") command.Unselect c r h.0 h.1 h.2 h.3 h.4 (λ x e. e)

pub unselect_back : (r : List ℕ) → Asks command.Unselect r → Spelled word.Unselect (Nothing command.Unselect) command.Unselect r
unselect_back r h = fixed_back (codes "unselect") word.Unselect command.Unselect h.front r refl (h.whole ∙ ap (λ (u : List ℕ). h.front ++ u) h.second) h.first

-- the words of a LIST up to the line's end
list_request : (special_use : Bool) (name options : List ℕ) → list_all is_sign name ≡ true → IsAnyName name
    → ((x : List ℕ) → IsWord options x → IsReturn special_use x)
    → (x : List ℕ) → IsWord (codes "list \"\" " ++ (name ++ options)) x → IsRequest (command.List special_use) x
list_request special_use name options sign is k x e =
    let s = word_split (codes "list \"\" ") (name ++ options) x e in
    let n = word_split name options s.1 s.4 in
    then_of s.0 s.1 x s.2 s.3 (then_of n.0 n.1 s.1 n.2 (subst IsAnyName (sym (sign_word name n.0 sign n.3)) is) (k n.1 n.4))

no_options : (x : List ℕ) → IsWord [] x → IsReturn false x
no_options [] e = inl refl
no_options (c ∷ x) e = absurd cc

pub list_forth : (c : Command) (r : List ℕ) → Spelled word.List (Nothing (command.List false)) c r → Asks c r
list_forth c r h =
    fixed_forth (codes "list \"\" \"*\"") (command.List false) c r h.0 h.1 h.2 h.3 h.4 (list_request false (codes "\"*\"") [] refl (inl refl) no_options)

pub list_atom_forth : (c : Command) (r : List ℕ) → Spelled word.ListAtom (Nothing (command.List false)) c r → Asks c r
list_atom_forth c r h =
    fixed_forth (codes "list \"\" *") (command.List false) c r h.0 h.1 h.2 h.3 h.4 (list_request false (codes "*") [] refl (inr refl) no_options)

pub list_subscribed_forth : (c : Command) (r : List ℕ) → Spelled word.ListSubscribed (Nothing (command.List false)) c r → Asks c r
list_subscribed_forth c r h =
    fixed_forth (codes "list \"\" \"*\" return (subscribed)") (command.List false) c r h.0 h.1 h.2 h.3 h.4
    (list_request false (codes "\"*\"") (codes " return (subscribed)") refl (inl refl) (λ x e. inr e))

pub list_atom_subscribed_forth : (c : Command) (r : List ℕ) → Spelled word.ListAtomSubscribed (Nothing (command.List false)) c r → Asks c r
list_atom_subscribed_forth c r h =
    fixed_forth (codes "list \"\" * return (subscribed)") (command.List false) c r h.0 h.1 h.2 h.3 h.4
    (list_request false (codes "*") (codes " return (subscribed)") refl (inr refl) (λ x e. inr e))

pub list_special_use_forth : (c : Command) (r : List ℕ) → Spelled word.ListSpecialUse (Nothing (command.List true)) c r → Asks c r
list_special_use_forth c r h =
    fixed_forth (codes "list \"\" \"*\" return (subscribed special-use)") (command.List true) c r h.0 h.1 h.2 h.3 h.4
    (list_request true (codes "\"*\"") (codes " return (subscribed special-use)") refl (inl refl) (λ x e. e))

pub list_atom_special_use_forth : (c : Command) (r : List ℕ) → Spelled word.ListAtomSpecialUse (Nothing (command.List true)) c r → Asks c r
list_atom_special_use_forth c r h =
    fixed_forth (codes "list \"\" * return (subscribed special-use)") (command.List true) c r h.0 h.1 h.2 h.3 h.4
    (list_request true (codes "*") (codes " return (subscribed special-use)") refl (inr refl) (λ x e. e))

-- one of the four texts that don't ask the special uses, or of the two that do
abbrev pub ListSpelled : Bool → List ℕ → Type 0
ListSpelled false r =
    Spelled word.List (Nothing (command.List false)) (command.List false) r ⊎ (Spelled word.ListAtom (Nothing (command.List false)) (command.List false) r
    ⊎ (Spelled word.ListSubscribed (Nothing (command.List false)) (command.List false) r
    ⊎ Spelled word.ListAtomSubscribed (Nothing (command.List false)) (command.List false) r))
ListSpelled true r =
    Spelled word.ListSpecialUse (Nothing (command.List true)) (command.List true) r ⊎ Spelled word.ListAtomSpecialUse (Nothing (command.List true)) (command.List true) r

-- the words, the pattern and the options of a LIST are the text of this word
list_spelled : (special_use : Bool) (pattern wanted : List ℕ) (w : FixedText) (front name options r : List ℕ)
    → fixed_text w ≡ (codes "list \"\" " ++ (pattern ++ wanted)) ++ crlf → r ≡ (front ++ (name ++ options)) ++ crlf
    → IsWord (codes "list \"\" ") front → IsWord pattern name → IsWord wanted options
    → Spelled w (Nothing (command.List special_use)) (command.List special_use) r
list_spelled special_use pattern wanted w front name options r same e f n o =
    fixed_back (codes "list \"\" " ++ (pattern ++ wanted)) w (command.List special_use) (front ++ (name ++ options)) r same e
    (word_join (codes "list \"\" ") (pattern ++ wanted) front (name ++ options) f (word_join pattern wanted name options n o))

list_by : (special_use : Bool) (front name options r : List ℕ) → r ≡ (front ++ (name ++ options)) ++ crlf
    → IsWord (codes "list \"\" ") front → IsAnyName name → IsReturn special_use options → ListSpelled special_use r
list_by false front name options r e f (inl n) (inl o) =
    inl (list_spelled false (codes "\"*\"") [] word.List front name options r refl e f (ap (map lower) n) (ap (map lower) o))
list_by false front name options r e f (inr n) (inl o) =
    inr (inl (list_spelled false (codes "*") [] word.ListAtom front name options r refl e f (ap (map lower) n) (ap (map lower) o)))
list_by false front name options r e f (inl n) (inr o) =
    inr (inr (inl (list_spelled false (codes "\"*\"") (codes " return (subscribed)") word.ListSubscribed front name options r refl e f (ap (map lower) n) o)))
list_by false front name options r e f (inr n) (inr o) =
    inr (inr (inr (list_spelled false (codes "*") (codes " return (subscribed)") word.ListAtomSubscribed front name options r refl e f (ap (map lower) n) o)))
list_by true front name options r e f (inl n) o =
    inl (list_spelled true (codes "\"*\"") (codes " return (subscribed special-use)") word.ListSpecialUse front name options r refl e f (ap (map lower) n) o)
list_by true front name options r e f (inr n) o =
    inr (list_spelled true (codes "*") (codes " return (subscribed special-use)") word.ListAtomSpecialUse front name options r refl e f (ap (map lower) n) o)

pub list_back : (special_use : Bool) (r : List ℕ) → Asks (command.List special_use) r → ListSpelled special_use r
list_back special_use r h = list_by special_use w.front w.second.front w.second.back r whole w.first w.second.first w.second.second
  where
    w : Then (IsWord (codes "list \"\" ")) (IsAnyName ▷ IsReturn special_use) h.front
    w = h.first

    whole : r ≡ (w.front ++ (w.second.front ++ w.second.back)) ++ crlf
    whole =
        h.whole ∙ ap (λ (u : List ℕ). u ++ h.back) (w.whole ∙ ap (λ (u : List ℕ). w.front ++ u) w.second.whole)
        ∙ ap (λ (u : List ℕ). (w.front ++ (w.second.front ++ w.second.back)) ++ u) h.second
