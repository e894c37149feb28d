-- Parts of commands that several commands have.
use Rattle.std.proofs.Common.{◌≡◌, ℕ, ◌+◌, Bool, true, false, List, [], ◌∷◌, ◌++◌, map, cond, refl, sym, ap, subst, ◌∙◌, append_assoc, arith, inl, inr}
use Rattle.std.specs.Prelude.{◌==◌}
use Rattle.imap_types.specs.Octets.{is_atom, lower}
use Rattle.imap_types.specs.Texts.{IsWord, crlf, plain_of}
use Rattle.imap_types.specs.Strings.{escaped}
use Rattle.command_parts.specs.Fields.{IsFolderName, IsCredential}
use Rattle.command_parts.specs.declared.no_command.NoCommand.TheVariants.{NeedMore, WantsLiteral}
use Rattle.command_parts.specs.declared.follow.Follow.{Follow}
use Rattle.command_parts.specs.declared.follow.Follow.TheVariants as follow
use Rattle.command_parts.specs.declared.fixed_text.FixedText.{FixedText}
use Rattle.command_parts.specs.declared.fixed_text.FixedText.TheVariants as word
use Rattle.command_parts.specs.reading.Lexemes.{may_follow}
use Rattle.command_parts.specs.reading.FixedTexts.{fixed_text, fixed_at}
use Rattle.command_parts.specs.reading.Strings.{name_at, last_name_at, literal_at, credential_at, credential_text_at, credential_literal_at}
use Rattle.command_parts.proofs.Readers.{ends_with_line, stop_of, IsReader, ends_append}
use Rattle.command_parts.proofs.Chains.{Chain, chained, chain_reader, Viewed, viewed, view_reader, same_reader}
use Rattle.command_parts.proofs.Branches.{Either, either, BeginsBy, either_reader}
use Rattle.command_parts.proofs.Choosing.{Choices, is_table, choose_reader}
use Rattle.command_parts.proofs.Literals.{follow_no_line}
use Rattle.std.specs.Fmt.{decimal}
use Rattle.imap_types.specs.Lines.{joined}
use Rattle.command_parts.proofs.NumeralReading.{NumeralText}
use Rattle.command_parts.proofs.FlagReading.{FlagsText}
use Rattle.command_parts.proofs.LiteralReading.{LiteralText, literal_reader}
use Rattle.command_parts.proofs.NameReading.{IsOutside, NameText, name_reader}

-- ---- what follows names

pub space_outside : IsOutside follow.Space
space_outside c e = grind arith

pub line_outside : IsOutside follow.Line
line_outside c e = grind arith

pub either_outside : IsOutside follow.SpaceOrLine
either_outside c e = grind arith

-- ---- how texts end

-- a text that an octet other than LF ends
pub stop_open : (t x : List ℕ) (c : ℕ) → t ≡ x ++ c ∷ [] → (c == 10) ≡ false → stop_of NeedMore t ≡ NeedMore
stop_open t x c e line = ap (stop_of NeedMore) e ∙ by x
  where
    by : (x : List ℕ) → stop_of NeedMore (x ++ c ∷ []) ≡ NeedMore
    by [] = ap (λ (b : Bool). cond b WantsLiteral NeedMore) line
    by (d ∷ x) = ap (λ (b : Bool). cond b WantsLiteral NeedMore) (ends_append (d ∷ x) c [] ∙ line)

lower_line : (c d : ℕ) → lower c ≡ d → (c == 10) ≡ (d == 10)
lower_line c d e = by (c == 10) refl
  where
    by : (b : Bool) → (c == 10) ≡ b → (c == 10) ≡ (d == 10)
    by true f = grind arith
    by false f = grind arith

-- a spelling ends as its text does
word_ends : (w t : List ℕ) → IsWord w t → ends_with_line t ≡ ends_with_line w
word_ends [] [] e = refl
word_ends [] (c ∷ t) e = absurd cc
word_ends (x ∷ w) [] e = absurd cc
word_ends (x ∷ []) (c ∷ []) e = lower_line c x cc
word_ends (x ∷ []) (c ∷ d ∷ t) e = absurd cc
word_ends (x ∷ y ∷ w) (c ∷ []) e = absurd cc
word_ends (x ∷ y ∷ w) (c ∷ d ∷ t) e = let rest : map lower (d ∷ t) ≡ y ∷ w = cc in word_ends (y ∷ w) (d ∷ t) rest

pub word_stop : (w t : List ℕ) → IsWord w t → stop_of NeedMore t ≡ stop_of NeedMore w
word_stop [] [] e = refl
word_stop [] (c ∷ t) e = absurd cc
word_stop (x ∷ w) [] e = absurd cc
word_stop (x ∷ w) (c ∷ t) e = ap (λ (b : Bool). cond b WantsLiteral NeedMore) (word_ends (x ∷ w) (c ∷ t) e)

-- ---- fixed texts

-- one fixed text is read
pub fixed_reader : (k : FixedText) → is_table (k ∷ []) ≡ true → IsReader NeedMore (Choices (k ∷ [])) (fixed_at k)
fixed_reader k table = choose_reader k [] table

pub fixed_stop : (k x : FixedText) (t : List ℕ) → Choices (k ∷ []) x t → stop_of NeedMore t ≡ stop_of NeedMore (fixed_text k)
fixed_stop k x t (inl e, h) = word_stop (fixed_text k) t (h ∙ ap fixed_text e)
fixed_stop k x t (inr i, h) = absurd i

-- what is spelled
pub fixed_word : (k x : FixedText) (t : List ℕ) → Choices (k ∷ []) x t → IsWord (fixed_text k) t
fixed_word k x t (inl e, h) = h ∙ ap fixed_text e
fixed_word k x t (inr i, h) = absurd i

-- the LF is spelled by itself alone
pub line_feed : (t : List ℕ) → IsWord (10 ∷ []) t → t ≡ 10 ∷ []
line_feed [] e = absurd cc
line_feed (c ∷ []) e = let first : lower c ≡ 10 = cc in ap (λ (n : ℕ). n ∷ []) (sign c first)
  where
    sign : (c : ℕ) → lower c ≡ 10 → c ≡ 10
    sign c e = grind arith
line_feed (c ∷ d ∷ t) e = absurd cc

pub brace : (t : List ℕ) → IsWord (123 ∷ []) t → t ≡ 123 ∷ []
brace [] e = absurd cc
brace (c ∷ []) e = let first : lower c ≡ 123 = cc in ap (λ (n : ℕ). n ∷ []) (sign c first)
  where
    sign : (c : ℕ) → lower c ≡ 123 → c ≡ 123
    sign c e = grind arith
brace (c ∷ d ∷ t) e = absurd cc

-- ---- users and passwords

-- a user or a password, and the octet that follows it
pub record CredentialText (f : Follow) (s t : List ℕ) : Type 0 where
  pub string : List ℕ
  pub stop : ℕ
  pub whole : t ≡ string ++ stop ∷ []
  pub is : IsCredential s string
  pub may : may_follow f stop ≡ true

abbrev Braced : Follow → List ℕ → List ℕ → Type 0
Braced f = Chain (Choices (word.Brace ∷ [])) (λ k. LiteralText f)

abbrev Bare : Follow → List ℕ → List ℕ → Type 0
Bare f = Viewed (λ v b. v.0) (NameText f)

braced_reader : (f : Follow) → IsReader NeedMore (Braced f) (credential_literal_at f)
unfolding credential_literal_at
braced_reader f = chain_reader NeedMore (λ k. NeedMore) (Choices (word.Brace ∷ [])) (λ k. LiteralText f) (fixed_at word.Brace) (λ k. literal_at f) (fixed_reader word.Brace refl)
    (λ k. literal_reader f) (λ k t h. fixed_stop word.Brace k t h)

bare_reader : (f : Follow) → IsOutside f → IsReader NeedMore (Bare f) (credential_text_at f)
unfolding credential_text_at
bare_reader f out = view_reader NeedMore (λ v b. v.0) (NameText f) (name_at f) (name_reader f out) (λ a t rest h. refl)

braced_begins : (f : Follow) → BeginsBy 123 true (Braced f)
braced_begins f v t h =
    let th = h.1 in
    let front = brace th.front (fixed_word word.Brace h.0 th.front th.first) in
    (123, th.back, th.whole ∙ ap (λ (u : List ℕ). u ++ th.back) front, refl)

atom_sign : (c : ℕ) → is_atom c ≡ true → (plain_of c == 123) ≡ false
atom_sign c e = grind arith

bare_begins : (f : Follow) → BeginsBy 123 false (Bare f)
bare_begins f v t h = by h.1.0 h.1.1 h.1.2
  where
    by : (x : List ℕ) → t ≡ x ++ h.0.1 ∷ [] → IsFolderName h.0.0 x → (c : ℕ) × (y : List ℕ) × (t ≡ c ∷ y) × ((plain_of c == 123) ≡ false)
    by [] e (inl a) = absurd (omega (arith, a.0.1))
    by (c ∷ x) e (inl a) = (c, x ++ h.0.1 ∷ [], e, atom_sign c a.0.0.0)
    by x e (inr q) = (34, (escaped h.0.0 ++ 34 ∷ []) ++ h.0.1 ∷ [], e ∙ ap (λ (u : List ℕ). u ++ h.0.1 ∷ []) q.1, refl)

credential_forth : (f : Follow) (s t : List ℕ) → Either (Braced f) (Bare f) s t → CredentialText f s t
credential_forth f s t (inl h) =
    let th = h.1 in
    let front = brace th.front (fixed_word word.Brace h.0 th.front th.first) in
    let l = th.second in
    record {
      string = 123 ∷ l.digits ++ 125 ∷ 13 ∷ 10 ∷ l.octets;
      stop = l.stop;
      whole = th.whole ∙ ap (λ (u : List ℕ). u ++ th.back) front ∙ ap (λ (u : List ℕ). 123 ∷ u) (l.whole ∙ sym (append_assoc l.digits (125 ∷ 13 ∷ 10 ∷ l.octets) (l.stop ∷ [])));
      is = inr (record {
        digits = l.digits;
        octets = l.octets;
        whole = refl;
        are_digits = l.are_digits;
        some = l.some;
        few = l.few;
        counted = l.counted;
        most = l.most;
        inside = l.inside;
        string = l.string;
      });
      may = l.may;
    }
credential_forth f s t (inr h) = record {
  string = h.1.0;
  stop = h.0.1;
  whole = h.1.1;
  is = inl (subst (λ (u : List ℕ). IsFolderName u h.1.0) (sym h.2) h.1.2);
  may = h.1.3;
}

credential_back : (f : Follow) (s t : List ℕ) → CredentialText f s t → Either (Braced f) (Bare f) s t
credential_back f s t h = by h.is
  where
    by : IsCredential s h.string → Either (Braced f) (Bare f) s t
    by (inl name) = inr ((s, h.stop), (h.string, h.whole, name, h.may), refl)
    by (inr l) = inl (
      word.Brace,
      record {
        front = 123 ∷ [];
        back = l.digits ++ 125 ∷ 13 ∷ 10 ∷ (l.octets ++ h.stop ∷ []);
        whole = h.whole ∙ ap (λ (u : List ℕ). u ++ h.stop ∷ []) l.whole ∙ ap (λ (u : List ℕ). 123 ∷ u) (append_assoc l.digits (125 ∷ 13 ∷ 10 ∷ l.octets) (h.stop ∷ []));
        first = (inl refl, refl);
        second = record {
          digits = l.digits;
          octets = l.octets;
          stop = h.stop;
          whole = refl;
          are_digits = l.are_digits;
          some = l.some;
          few = l.few;
          counted = l.counted;
          most = l.most;
          inside = l.inside;
          string = l.string;
          may = h.may;
        };
      },
    )

-- a user or a password is read with the octet that follows it
pub credential_reader : (f : Follow) → IsOutside f → IsReader NeedMore (CredentialText f) (credential_at f)
unfolding credential_at
credential_reader f out = same_reader NeedMore (Either (Braced f) (Bare f)) (CredentialText f) (either 123 (credential_literal_at f) (credential_text_at f))
    (credential_forth f) (credential_back f)
    (either_reader NeedMore 123 (Braced f) (Bare f) (credential_literal_at f) (credential_text_at f) (braced_reader f) (bare_reader f out) (braced_begins f) (bare_begins f) refl)

pub credential_stop : (f : Follow) (s t : List ℕ) → CredentialText f s t → stop_of NeedMore t ≡ NeedMore
credential_stop f s t h = stop_open t h.string h.stop h.whole (follow_no_line f h.stop h.may)

pub name_stop : (f : Follow) (v : List ℕ × ℕ) (t : List ℕ) → NameText f v t → stop_of NeedMore t ≡ NeedMore
name_stop f v t h = stop_open t h.0 v.1 h.1 (follow_no_line f v.1 h.3)

pub number_stop : (most : ℕ) (f : Follow) (v : ℕ × ℕ) (t : List ℕ) → NumeralText most f v t → stop_of NeedMore t ≡ NeedMore
number_stop most f v t h = stop_open t (decimal v.0) v.1 h.0 (follow_no_line f v.1 h.2)

pub flags_stop : (fs : List (List ℕ)) (t : List ℕ) → FlagsText fs t → stop_of NeedMore t ≡ NeedMore
flags_stop fs t h = stop_open t (joined h.0) 41 h.2 refl

-- ---- the last argument

-- a folder's name and the line's end
abbrev pub LastName : List ℕ → List ℕ → Type 0
LastName s t = (x : List ℕ) × (t ≡ x ++ crlf) × IsFolderName s x

abbrev NameLine : List ℕ → List ℕ → Type 0
NameLine = Chain (NameText follow.Line) (λ v. Viewed (λ k b. v.0) (Choices (word.LineFeed ∷ [])))

carriage : (c : ℕ) → (c == 13) ≡ true → c ≡ 13
carriage c e = grind arith

last_forth : (s t : List ℕ) → NameLine s t → LastName s t
last_forth s t h =
    let th = h.1 in
    let n = th.first in
    let feed = line_feed th.back (fixed_word word.LineFeed th.second.0 th.back th.second.1) in
    let cr : h.0.1 ≡ 13 = carriage h.0.1 n.3 in (
      n.0,
      th.whole ∙ ap (λ (u : List ℕ). u ++ th.back) (n.1 ∙ ap (λ (c : ℕ). n.0 ++ c ∷ []) cr) ∙ ap (λ (u : List ℕ). (n.0 ++ 13 ∷ []) ++ u) feed
          ∙ append_assoc n.0 (13 ∷ []) (10 ∷ []),
      subst (λ (u : List ℕ). IsFolderName u n.0) (sym th.second.2) n.2,
    )

last_back : (s t : List ℕ) → LastName s t → NameLine s t
last_back s t h = (
  (s, 13),
  record {
    front = h.0 ++ 13 ∷ [];
    back = 10 ∷ [];
    whole = h.1 ∙ sym (append_assoc h.0 (13 ∷ []) (10 ∷ []));
    first = (h.0, refl, h.2, refl);
    second = (word.LineFeed, (inl refl, refl), refl);
  },
)

pub last_name_reader : IsReader NeedMore LastName last_name_at
unfolding last_name_at
last_name_reader = same_reader NeedMore NameLine LastName (chained (name_at follow.Line) (λ v. viewed (λ k b. v.0) (fixed_at word.LineFeed))) last_forth last_back
    (chain_reader NeedMore (λ v. NeedMore) (NameText follow.Line) (λ v. Viewed (λ k b. v.0) (Choices (word.LineFeed ∷ []))) (name_at follow.Line)
    (λ v. viewed (λ k b. v.0) (fixed_at word.LineFeed)) (name_reader follow.Line line_outside)
    (λ v. view_reader NeedMore (λ k b. v.0) (Choices (word.LineFeed ∷ [])) (fixed_at word.LineFeed) (fixed_reader word.LineFeed refl) (λ a t rest h. refl))
    (λ v t h. name_stop follow.Line v t h))
