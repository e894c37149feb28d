-- The grammar's lines by their first word, and the automaton's words.
use Rattle.std.proofs.Common.{◌≡◌, ℕ, zero, suc, ◌<◌, true, false, List, [], ◌∷◌, ◌++◌, length, map, get_or, Option, Some, None, refl, sym, ap, subst, ◌∙◌, arith, inl, inr}
use Rattle.std.proofs.lemmas.List.{length-map}
use Rattle.std.specs.Prelude.{◌≢◌, Contains}
use Rattle.imap_keywords.specs.declared.key.Key.{Key}
use Rattle.imap_keywords.specs.declared.key.Key.TheVariants as key
use Rattle.imap_keywords.specs.declared.key.WordPlace.TheVariants as place
use Rattle.imap_keywords.specs.Keys.{key_text, keys}
use Rattle.imap_automaton.specs.Langs.{IsBehind, WordSays, WordRest}
use Rattle.imap_keywords.specs.Keys.{Among}
use Rattle.imap_automaton.specs.FolderLangs.{NameLine, DelimiterLine}
use Rattle.pushdown.proofs.Lists.{cons_head, cons_tail}
use Rattle.imap_keywords.proofs.KeyLemmas.{is_key_octet, key_octets, key_some, among_is}
use Rattle.imap_automaton.proofs.CountLemmas.{free_to, free_from}
use Rattle.imap_types.specs.declared.response.Status.{Status}
use Rattle.imap_types.specs.declared.response.Status.TheVariants as status
use Rattle.imap_types.specs.declared.response.StatusItems.{StatusItems}
use Rattle.imap_types.specs.declared.response.Response.{Response}
use Rattle.imap_types.specs.declared.response.Response.TheVariants as response
use Rattle.imap_types.specs.Octets.{is_word, lower}
use Rattle.imap_types.specs.Texts.{Each, Then, crlf, IsWord}
use Rattle.imap_types.specs.Lines.{word_of, Completes, IsRest, IsCodedRest}
use Rattle.imap_types.specs.declared.code.Code.{Code}
use Rattle.imap_types.specs.reading.CodeReading.{code_in}
use Rattle.imap_types.proofs.CodeLemmas.{code_has}
use Rattle.imap_types.specs.Items.{kept, items_of}
use Rattle.imap_types.specs.Folders.{folder_name, IsListLine, told_counts, no_counts, IsStatusLine}
use Rattle.imap_types.specs.Spells.{keywords, IsFlagsLine, Says, IsWordLine}

-- ---- keywords

-- a keyword of lines without a number is the text of a key that counts there
pub plain_key : (w : List ℕ) → Contains (keywords None) w → (k : Key) × Among k (keys place.Plain) × (w ≡ key_text k)
plain_key w (zero, lt, e) = (key.Ok, inl refl, sym e)
plain_key w (suc zero, lt, e) = (key.No, inr (inl refl), sym e)
plain_key w (suc (suc zero), lt, e) = (key.Bad, inr (inr (inl refl)), sym e)
plain_key w (suc (suc (suc zero)), lt, e) = (key.Preauth, inr (inr (inr (inl refl))), sym e)
plain_key w (suc (suc (suc (suc zero))), lt, e) = (key.Bye, inr (inr (inr (inr (inl refl)))), sym e)
plain_key w (suc (suc (suc (suc (suc zero)))), lt, e) = (key.Capability, inr (inr (inr (inr (inr (inl refl))))), sym e)
plain_key w (suc (suc (suc (suc (suc (suc zero))))), lt, e) = (key.Enabled, inr (inr (inr (inr (inr (inr (inl refl)))))), sym e)
plain_key w (suc (suc (suc (suc (suc (suc (suc zero)))))), lt, e) = (key.Flags, inr (inr (inr (inr (inr (inr (inr (inl refl))))))), sym e)
plain_key w (suc (suc (suc (suc (suc (suc (suc (suc zero))))))), lt, e) = (key.Vanished, inr (inr (inr (inr (inr (inr (inr (inr (inl refl)))))))), sym e)
plain_key w (suc (suc (suc (suc (suc (suc (suc (suc (suc zero)))))))), lt, e) = (key.List, inr (inr (inr (inr (inr (inr (inr (inr (inr (inl refl))))))))), sym e)
plain_key w (suc (suc (suc (suc (suc (suc (suc (suc (suc (suc zero))))))))), lt, e) = (key.Status, inr (inr (inr (inr (inr (inr (inr (inr (inr (inr (inl refl)))))))))), sym e)
plain_key w (suc (suc (suc (suc (suc (suc (suc (suc (suc (suc (suc i)))))))))), lt, e) = absurd (omega (arith, lt))

numbered_key : (n : ℕ) (w : List ℕ) → Contains (keywords (Some n)) w → (k : Key) × Among k (keys place.Numbered) × (w ≡ key_text k)
numbered_key n w (zero, lt, e) = (key.Exists, inl refl, sym e)
numbered_key n w (suc zero, lt, e) = (key.Expunge, inr (inl refl), sym e)
numbered_key n w (suc (suc zero), lt, e) = (key.Fetch, inr (inr (inl refl)), sym e)
numbered_key n w (suc (suc (suc i)), lt, e) = absurd (omega (arith, lt))

key_plain : (k : Key) → Among k (keys place.Plain) → Contains (keywords None) (key_text k)
key_plain key.Ok m = (0, omega arith, refl)
key_plain key.No m = (1, omega arith, refl)
key_plain key.Bad m = (2, omega arith, refl)
key_plain key.Preauth m = (3, omega arith, refl)
key_plain key.Bye m = (4, omega arith, refl)
key_plain key.Capability m = (5, omega arith, refl)
key_plain key.Enabled m = (6, omega arith, refl)
key_plain key.Vanished m = (8, omega arith, refl)
key_plain key.List m = (9, omega arith, refl)
key_plain key.Status m = (10, omega arith, refl)
key_plain key.Exists m = let e = among_is key.Exists (keys place.Plain) m in absurd cc
key_plain key.Expunge m = let e = among_is key.Expunge (keys place.Plain) m in absurd cc
key_plain key.Fetch m = let e = among_is key.Fetch (keys place.Plain) m in absurd cc
key_plain key.ModSeq m = let e = among_is key.ModSeq (keys place.Plain) m in absurd cc
key_plain key.Size m = let e = among_is key.Size (keys place.Plain) m in absurd cc
key_plain key.Header m = let e = among_is key.Header (keys place.Plain) m in absurd cc
key_plain key.HeaderPart m = let e = among_is key.HeaderPart (keys place.Plain) m in absurd cc
key_plain key.Body m = let e = among_is key.Body (keys place.Plain) m in absurd cc
key_plain key.BodyPart m = let e = among_is key.BodyPart (keys place.Plain) m in absurd cc
key_plain key.InternalDate m = let e = among_is key.InternalDate (keys place.Plain) m in absurd cc
key_plain key.Jan m = let e = among_is key.Jan (keys place.Plain) m in absurd cc
key_plain key.Feb m = let e = among_is key.Feb (keys place.Plain) m in absurd cc
key_plain key.Mar m = let e = among_is key.Mar (keys place.Plain) m in absurd cc
key_plain key.Apr m = let e = among_is key.Apr (keys place.Plain) m in absurd cc
key_plain key.May m = let e = among_is key.May (keys place.Plain) m in absurd cc
key_plain key.Jun m = let e = among_is key.Jun (keys place.Plain) m in absurd cc
key_plain key.Jul m = let e = among_is key.Jul (keys place.Plain) m in absurd cc
key_plain key.Aug m = let e = among_is key.Aug (keys place.Plain) m in absurd cc
key_plain key.Sep m = let e = among_is key.Sep (keys place.Plain) m in absurd cc
key_plain key.Oct m = let e = among_is key.Oct (keys place.Plain) m in absurd cc
key_plain key.Nov m = let e = among_is key.Nov (keys place.Plain) m in absurd cc
key_plain key.Dec m = let e = among_is key.Dec (keys place.Plain) m in absurd cc
key_plain key.Uid m = let e = among_is key.Uid (keys place.Plain) m in absurd cc
key_plain key.Flags m = (7, omega arith, refl)

key_numbered : (n : ℕ) (k : Key) → Among k (keys place.Numbered) → Contains (keywords (Some n)) (key_text k)
key_numbered n key.Ok m = let e = among_is key.Ok (keys place.Numbered) m in absurd cc
key_numbered n key.No m = let e = among_is key.No (keys place.Numbered) m in absurd cc
key_numbered n key.Bad m = let e = among_is key.Bad (keys place.Numbered) m in absurd cc
key_numbered n key.Preauth m = let e = among_is key.Preauth (keys place.Numbered) m in absurd cc
key_numbered n key.Bye m = let e = among_is key.Bye (keys place.Numbered) m in absurd cc
key_numbered n key.Capability m = let e = among_is key.Capability (keys place.Numbered) m in absurd cc
key_numbered n key.Enabled m = let e = among_is key.Enabled (keys place.Numbered) m in absurd cc
key_numbered n key.Vanished m = let e = among_is key.Vanished (keys place.Numbered) m in absurd cc
key_numbered n key.List m = let e = among_is key.List (keys place.Numbered) m in absurd cc
key_numbered n key.Status m = let e = among_is key.Status (keys place.Numbered) m in absurd cc
key_numbered n key.Exists m = (0, omega arith, refl)
key_numbered n key.Expunge m = (1, omega arith, refl)
key_numbered n key.Fetch m = (2, omega arith, refl)
key_numbered n key.ModSeq m = let e = among_is key.ModSeq (keys place.Numbered) m in absurd cc
key_numbered n key.Size m = let e = among_is key.Size (keys place.Numbered) m in absurd cc
key_numbered n key.Header m = let e = among_is key.Header (keys place.Numbered) m in absurd cc
key_numbered n key.HeaderPart m = let e = among_is key.HeaderPart (keys place.Numbered) m in absurd cc
key_numbered n key.Body m = let e = among_is key.Body (keys place.Numbered) m in absurd cc
key_numbered n key.BodyPart m = let e = among_is key.BodyPart (keys place.Numbered) m in absurd cc
key_numbered n key.InternalDate m = let e = among_is key.InternalDate (keys place.Numbered) m in absurd cc
key_numbered n key.Jan m = let e = among_is key.Jan (keys place.Numbered) m in absurd cc
key_numbered n key.Feb m = let e = among_is key.Feb (keys place.Numbered) m in absurd cc
key_numbered n key.Mar m = let e = among_is key.Mar (keys place.Numbered) m in absurd cc
key_numbered n key.Apr m = let e = among_is key.Apr (keys place.Numbered) m in absurd cc
key_numbered n key.May m = let e = among_is key.May (keys place.Numbered) m in absurd cc
key_numbered n key.Jun m = let e = among_is key.Jun (keys place.Numbered) m in absurd cc
key_numbered n key.Jul m = let e = among_is key.Jul (keys place.Numbered) m in absurd cc
key_numbered n key.Aug m = let e = among_is key.Aug (keys place.Numbered) m in absurd cc
key_numbered n key.Sep m = let e = among_is key.Sep (keys place.Numbered) m in absurd cc
key_numbered n key.Oct m = let e = among_is key.Oct (keys place.Numbered) m in absurd cc
key_numbered n key.Nov m = let e = among_is key.Nov (keys place.Numbered) m in absurd cc
key_numbered n key.Dec m = let e = among_is key.Dec (keys place.Numbered) m in absurd cc
key_numbered n key.Uid m = let e = among_is key.Uid (keys place.Numbered) m in absurd cc
key_numbered n key.Flags m = let e = among_is key.Flags (keys place.Numbered) m in absurd cc

-- ---- after `* `

stray_to : (w : List ℕ) → (Contains (keywords None) w → ⊥) → (k : Key) → Among k (keys place.Plain) → w ≡ key_text k → ⊥
stray_to w no_key k m e = no_key (subst (Contains (keywords None)) (sym e) (key_plain k m))

flags_to : (flags : List (List ℕ)) (t : List ℕ) → IsFlagsLine flags t → IsBehind place.Plain key.Flags t
flags_to flags t h = (h.1 ++ crlf, h.2, record { front = h.1; back = crlf; whole = refl; first = (h.0, h.3); second = refl })

list_to : (attributes : List (List ℕ)) (delimiter : Option ℕ) (name t : List ℕ) → IsListLine attributes delimiter name t → IsBehind place.Plain key.List t
list_to attributes delimiter name t h =
    let after_name : NameLine (32 ∷ h.third ++ h.rest) = (
      h.third ++ h.rest,
      refl,
      record { front = h.third; back = h.rest; whole = refl; first = (h.string, h.spelled); second = h.ends },
    ) in
    let after_names : DelimiterLine (32 ∷ h.second ++ (32 ∷ h.third ++ h.rest)) = (
      h.second ++ (32 ∷ h.third ++ h.rest),
      refl,
      record {
        front = h.second;
        back = 32 ∷ h.third ++ h.rest;
        whole = refl;
        first = (delimiter, h.delimited);
        second = after_name;
      },
    ) in (
      h.first ++ (32 ∷ h.second ++ (32 ∷ h.third ++ h.rest)),
      h.whole,
      record { front = h.first; back = 32 ∷ h.second ++ (32 ∷ h.third ++ h.rest); whole = refl; first = (h.told, h.names); second = after_names },
    )

list_from : (t : List ℕ) → IsBehind place.Plain key.List t → (attributes : List (List ℕ)) × (delimiter : Option ℕ) × (name : List ℕ) × IsListLine attributes delimiter name t
list_from t b =
    let d = b.2.second in
    let n = d.2.second in (
      kept b.2.first.0,
      d.2.first.0,
      folder_name n.2.first.0,
      record {
        told = b.2.first.0;
        string = n.2.first.0;
        first = b.2.front;
        second = d.2.front;
        third = n.2.front;
        rest = n.2.back;
        whole = b.1 ∙ ap (λ (u : List ℕ). 32 ∷ u) (b.2.whole ∙ ap (λ (u : List ℕ). b.2.front ++ u)
            (d.1 ∙ ap (λ (u : List ℕ). 32 ∷ u) (d.2.whole ∙ ap (λ (u : List ℕ). d.2.front ++ u) (n.1 ∙ ap (λ (u : List ℕ). 32 ∷ u) n.2.whole))));
        names = b.2.first.1;
        delimited = d.2.first.1;
        spelled = n.2.first.1;
        ends = n.2.second;
        attributes_are = refl;
        name_is = refl;
      },
    )

status_to : (name : List ℕ) (items : StatusItems) (t : List ℕ) → IsStatusLine name items t → IsBehind place.Plain key.Status t
status_to name items t h = (
  h.first ++ 32 ∷ 40 ∷ h.rest,
  h.whole,
  record { front = h.first; back = 32 ∷ 40 ∷ h.rest; whole = refl; first = (h.string, h.spelled); second = (40 ∷ h.rest, refl, (h.rest, refl, (h.counts, h.counted))) },
)

status_from : (t : List ℕ) → IsBehind place.Plain key.Status t → (name : List ℕ) × (items : StatusItems) × IsStatusLine name items t
status_from t b =
    let c = b.2.second in (
      folder_name b.2.first.0,
      told_counts no_counts c.2.2.0,
      record {
        string = b.2.first.0;
        counts = c.2.2.0;
        first = b.2.front;
        rest = c.2.0;
        whole = b.1 ∙ ap (λ (u : List ℕ). 32 ∷ u) (b.2.whole ∙ ap (λ (u : List ℕ). b.2.front ++ u) (c.1 ∙ ap (λ (u : List ℕ). 32 ∷ u) c.2.1));
        spelled = b.2.first.1;
        counted = c.2.2.1;
        name_is = refl;
        items_are = refl;
      },
    )

plain_says : (v : Response) (w tail t : List ℕ) → Says None v w tail t → WordSays place.Plain [] w tail t
plain_says (response.Untagged status.Ok code) w tail t h = inl (key.Ok, inl refl, h.0, h.1.0)
plain_says (response.Untagged status.No code) w tail t h = inl (key.No, inr (inl refl), h.0, h.1.0)
plain_says (response.Untagged status.Bad code) w tail t h = inl (key.Bad, inr (inr (inl refl)), h.0, h.1.0)
plain_says (response.Untagged status.Preauth code) w tail t h = inl (key.Preauth, inr (inr (inr (inl refl))), h.0, h.1.0)
plain_says (response.Untagged status.Bye code) w tail t h = inl (key.Bye, inr (inr (inr (inr (inl refl)))), h.0, h.1.0)
plain_says (response.Capability ws) w tail t h = inl (key.Capability, inr (inr (inr (inr (inr (inl refl))))), h.0, (ws, h.1))
plain_says (response.Enabled ws) w tail t h = inl (key.Enabled, inr (inr (inr (inr (inr (inr (inl refl)))))), h.0, (ws, h.1))
plain_says (response.Flags flags) w tail t h = inl (key.Flags, inr (inr (inr (inr (inr (inr (inr (inl refl))))))), h.0, flags_to flags tail h.1)
plain_says (response.List attributes delimiter name) w tail t h =
    inl (key.List, inr (inr (inr (inr (inr (inr (inr (inr (inr (inl refl))))))))), h.0, list_to attributes delimiter name tail h.1)
plain_says (response.StatusItems name items) w tail t h = inl (key.Status, inr (inr (inr (inr (inr (inr (inr (inr (inr (inr (inl refl)))))))))), h.0, status_to name items tail h.1)
plain_says (response.Vanished earlier uids) w tail t h = inl (
  key.Vanished,
  inr (inr (inr (inr (inr (inr (inr (inr (inl refl)))))))),
  h.0,
  (h.1.0, h.1.1, (earlier, uids.ranges, h.1.2)),
)
plain_says response.Other w tail t h = inr (stray_to w h.0, (h.1.0, free_to h.1.0 t h.1.1))
plain_says _ w tail t h = absurd h

-- a word that isn't empty has an octet
pub word_some : (w : List ℕ) → w ≢ [] → 0 < length w
word_some [] ne = absurd (ne refl)
word_some (c ∷ w) ne = omega arith

-- a word that has an octet isn't empty
pub some_word : (w : List ℕ) → 0 < length w → w ≢ []
some_word w lt e = omega (arith, lt, ap length e)

-- a line without a number is read by the automaton from its first word on
pub plain_to : (v : Response) (t : List ℕ) → IsWordLine None v t → WordRest place.Plain [] t
plain_to v t h = record {
  word = h.word;
  tail = h.tail;
  whole = h.whole;
  each = h.word_is;
  some = (let s = word_some h.word h.some in omega (arith, s));
  longest = h.longest;
  says = plain_says v (map lower h.word) h.tail t h.says;
}

flags_from : (t : List ℕ) → IsBehind place.Plain key.Flags t → (flags : List (List ℕ)) × IsFlagsLine flags t
flags_from t b = (
  kept b.2.first.0,
  (b.2.first.0, b.2.front, b.1 ∙ ap (λ (u : List ℕ). 32 ∷ u) (b.2.whole ∙ ap (λ (u : List ℕ). b.2.front ++ u) b.2.second), b.2.first.1, refl),
)

said_by_key : (k : Key) (w tail t : List ℕ) → w ≡ key_text k → IsBehind place.Plain k tail → (v : Response) × Says None v w tail t
said_by_key key.Ok w tail t e b = (response.Untagged status.Ok (code_in tail), (e, (b, code_has tail)))
said_by_key key.No w tail t e b = (response.Untagged status.No (code_in tail), (e, (b, code_has tail)))
said_by_key key.Bad w tail t e b = (response.Untagged status.Bad (code_in tail), (e, (b, code_has tail)))
said_by_key key.Preauth w tail t e b = (response.Untagged status.Preauth (code_in tail), (e, (b, code_has tail)))
said_by_key key.Bye w tail t e b = (response.Untagged status.Bye (code_in tail), (e, (b, code_has tail)))
said_by_key key.Capability w tail t e b = (response.Capability b.0, (e, b.1))
said_by_key key.Enabled w tail t e b = (response.Enabled b.0, (e, b.1))
said_by_key key.Flags w tail t e b = let f = flags_from tail b in (response.Flags f.0, (e, f.1))
said_by_key key.List w tail t e b = let l = list_from tail b in (response.List l.0 l.1 l.2, (e, l.3))
said_by_key key.Status w tail t e b = let s = status_from tail b in (response.StatusItems s.0 s.1, (e, s.2))
said_by_key key.Vanished w tail t e b = (response.Vanished b.2.0 (record { ranges = b.2.1 }), (e, (b.0, b.1, b.2.2)))
said_by_key _ w tail t e b = absurd b

no_plain : (w : List ℕ) → ((k : Key) → Among k (keys place.Plain) → w ≡ key_text k → ⊥) → Contains (keywords None) w → ⊥
no_plain w f h = let k = plain_key w h in f k.0 k.1 k.2

plain_said : (w tail t : List ℕ) → WordSays place.Plain [] w tail t → (v : Response) × Says None v w tail t
plain_said w tail t (inl k) = said_by_key k.0 w tail t k.2 k.3
plain_said w tail t (inr s) = (response.Other, (no_plain w s.0, (s.1.0, free_from s.1.0 t s.1.1)))

-- what the automaton reads from the first word after `* ` on is a line without a number
pub plain_from : (t : List ℕ) → WordRest place.Plain [] t → (v : Response) × IsWordLine None v t
plain_from t h =
    let s = plain_said (map lower h.word) h.tail t h.says in
    (s.0, record { word = h.word; tail = h.tail; whole = h.whole; word_is = h.each; some = some_word h.word (let q = h.some in omega (arith, q)); longest = h.longest; says = s.1 })

-- ---- after `* ` and a number

stray_numbered : (n : ℕ) (w : List ℕ) → (Contains (keywords (Some n)) w → ⊥) → (k : Key) → Among k (keys place.Numbered) → w ≡ key_text k → ⊥
stray_numbered n w no_key k m e = no_key (subst (Contains (keywords (Some n))) (sym e) (key_numbered n k m))

numbered_says : (n : ℕ) (v : Response) (w tail t : List ℕ) → Says (Some n) v w tail t → WordSays place.Numbered [] w tail t
numbered_says n (response.Exists count) w tail t h = inl (key.Exists, inl refl, h.1, h.2)
numbered_says n (response.Expunge seq) w tail t h = inl (key.Expunge, inr (inl refl), h.1, h.2)
numbered_says n (response.Fetch seq items) w tail t h = inl (key.Fetch, inr (inr (inl refl)), h.1, (40 ∷ h.2.1, h.2.2, (h.2.0, h.2.1, refl, h.2.3)))
numbered_says n response.Other w tail t h = inr (stray_numbered n w h.0, (h.1.0, free_to h.1.0 t h.1.1))
numbered_says n _ w tail t h = absurd h

-- a line after a number is read by the automaton from its first word on
pub numbered_to : (n : ℕ) (v : Response) (t : List ℕ) → IsWordLine (Some n) v t → WordRest place.Numbered [] t
numbered_to n v t h = record {
  word = h.word;
  tail = h.tail;
  whole = h.whole;
  each = h.word_is;
  some = (let s = word_some h.word h.some in omega (arith, s));
  longest = h.longest;
  says = numbered_says n v (map lower h.word) h.tail t h.says;
}

numbered_by_key : (n : ℕ) (k : Key) (w tail t : List ℕ) → w ≡ key_text k → IsBehind place.Numbered k tail → (v : Response) × Says (Some n) v w tail t
numbered_by_key n key.Exists w tail t e b = (response.Exists n, (refl, e, b))
numbered_by_key n key.Expunge w tail t e b = (response.Expunge n, (refl, e, b))
numbered_by_key n key.Fetch w tail t e b = (response.Fetch n (items_of b.2.0), (refl, e, (b.2.0, b.2.1, b.1 ∙ ap (λ (u : List ℕ). 32 ∷ u) b.2.2, b.2.3, refl)))
numbered_by_key n _ w tail t e b = absurd b

no_numbered : (n : ℕ) (w : List ℕ) → ((k : Key) → Among k (keys place.Numbered) → w ≡ key_text k → ⊥) → Contains (keywords (Some n)) w → ⊥
no_numbered n w f h = let k = numbered_key n w h in f k.0 k.1 k.2

numbered_said : (n : ℕ) (w tail t : List ℕ) → WordSays place.Numbered [] w tail t → (v : Response) × Says (Some n) v w tail t
numbered_said n w tail t (inl k) = numbered_by_key n k.0 w tail t k.2 k.3
numbered_said n w tail t (inr s) = (response.Other, (no_numbered n w s.0, (s.1.0, free_from s.1.0 t s.1.1)))

-- what the automaton reads from the first word after a number on is such a line, whatever the number
pub numbered_from : (n : ℕ) (t : List ℕ) → WordRest place.Numbered [] t → (v : Response) × IsWordLine (Some n) v t
numbered_from n t h =
    let s = numbered_said n (map lower h.word) h.tail t h.says in
    (s.0, record { word = h.word; tail = h.tail; whole = h.whole; word_is = h.each; some = some_word h.word (let q = h.some in omega (arith, q)); longest = h.longest; says = s.1 })

-- ---- after a tag

tagged_said : (k : Key) (x tail : List ℕ) → map lower x ≡ key_text k → IsBehind place.Tagged k tail → (s : Status) × Completes s × IsWord (word_of s) x × IsRest tail
tagged_said key.Ok x tail e b = (status.Ok, tt, e, b)
tagged_said key.No x tail e b = (status.No, tt, e, b)
tagged_said key.Bad x tail e b = (status.Bad, tt, e, b)
tagged_said _ x tail e b = absurd b

-- what the automaton reads after a tag is the word of a status that completes, and a rest with a code
pub tagged_from : (t : List ℕ) → WordRest place.Tagged [] t → (s : Status) × (code : Code) × Completes s × Then (IsWord (word_of s)) (IsCodedRest code) t
tagged_from t h = by h.says
  where
    by : WordSays place.Tagged [] ([] ++ map lower h.word) h.tail t → (s : Status) × (code : Code) × Completes s × Then (IsWord (word_of s)) (IsCodedRest code) t
    by (inl k) =
        let s = tagged_said k.0 h.word h.tail k.2 k.3 in
        (s.0, code_in h.tail, s.1, record { front = h.word; back = h.tail; whole = h.whole; first = s.2; second = (s.3, code_has h.tail) })
    by (inr s) = absurd s.1

-- an octet whose lower case may stand in a key may stand in a word
pub lower_word : (c : ℕ) → is_key_octet (lower c) ≡ true → is_word c ≡ true
lower_word c e = grind arith

-- octets that are a key's in lower case may all stand in a word
pub word_of_key : (x y : List ℕ) → Each is_key_octet y → map lower x ≡ y → Each is_word x
word_of_key [] y h e = tt
word_of_key (c ∷ x) [] h e = absurd cc
word_of_key (c ∷ x) (d ∷ y) h e =
    let q = cons_head (lower c) d (map lower x) y e in
    (lower_word c (ap is_key_octet q ∙ h.0), word_of_key x y h.1 (cons_tail (lower c) d (map lower x) y e))

-- no word goes on where the rest of a line begins
pub rest_out : (t : List ℕ) → IsRest t → is_word (get_or t 0 0) ≡ false
rest_out t (inl e) = ap (λ (u : List ℕ). is_word (get_or u 0 0)) e
rest_out t (inr w) = ap (λ (u : List ℕ). is_word (get_or u 0 0)) w.1

tagged_key : (s : Status) → Completes s → (k : Key) × Among k (keys place.Tagged) × (word_of s ≡ key_text k) × ((u : List ℕ) → IsRest u → IsBehind place.Tagged k u)
tagged_key status.Ok h = (key.Ok, inl refl, refl, λ u r. r)
tagged_key status.No h = (key.No, inr (inl refl), refl, λ u r. r)
tagged_key status.Bad h = (key.Bad, inr (inr (inl refl)), refl, λ u r. r)
tagged_key status.Preauth h = absurd h
tagged_key status.Bye h = absurd h

-- the word of a status that completes, and a rest with a code, are read by the automaton after a tag
pub tagged_to : (s : Status) (code : Code) (t : List ℕ) → Completes s → Then (IsWord (word_of s)) (IsCodedRest code) t → WordRest place.Tagged [] t
tagged_to s code t done h =
    let k = tagged_key s done in
    record {
      word = h.front;
      tail = h.back;
      whole = h.whole;
      each = word_of_key h.front (key_text k.0) (key_octets k.0) (h.first ∙ k.2);
      some = (let n = key_some k.0 in let l = ap length (h.first ∙ k.2) in let m = length-map h.front lower in omega (arith, n, l, m));
      longest = rest_out h.back h.second.0;
      says = inl (k.0, k.1, h.first ∙ k.2, k.3 h.back h.second.0);
    }
