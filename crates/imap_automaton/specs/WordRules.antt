-- Words by which a reader decides.
use Rattle.std.specs.Prelude.{ℕ, ◌+◌, ◌==◌, if◌then◌else◌, take, Option, Some, None}
use Rattle.imap_keywords.specs.declared.key.Key.{Key}
use Rattle.imap_keywords.specs.declared.key.Key.TheVariants as key
use Rattle.imap_keywords.specs.declared.key.WordPlace.{WordPlace}
use Rattle.imap_keywords.specs.declared.key.WordPlace.TheVariants as place
use Rattle.imap_keywords.specs.declared.count.Pending.TheVariants as pending
use Rattle.imap_keywords.specs.declared.phrase.Phrase.TheVariants as phrase
use Rattle.imap_automaton.specs.declared.sym.Line.TheVariants as line
use Rattle.imap_automaton.specs.declared.sym.Item.TheVariants as item
use Rattle.imap_automaton.specs.declared.sym.Names.TheVariants as names
use Rattle.imap_automaton.specs.declared.sym.Date.TheVariants as date
use Rattle.imap_automaton.specs.declared.sym.ItemName.TheVariants as name
use Rattle.imap_automaton.specs.declared.sym.Set.TheVariants as set
use Rattle.imap_automaton.specs.declared.sym.Str.TheVariants as str
use Rattle.imap_automaton.specs.declared.sym.Folder.TheVariants as folder
use Rattle.imap_automaton.specs.declared.sym.Sym.TheVariants as sym
use Rattle.imap_automaton.specs.declared.sym.Sym.{Sym}
use Rattle.pushdown.specs.declared.moves.Move.{Move}
use Rattle.pushdown.specs.declared.moves.Move.TheVariants as move
use Rattle.imap_keywords.specs.Keys.{key_text, in_word, next_key, whole_key}
use Rattle.imap_automaton.specs.FreeRules.{text_rule}
use Rattle.imap_automaton.specs.SetRules.{words_more}
use Rattle.imap_automaton.specs.DateRules.{time_rule}
use Rattle.imap_automaton.specs.ItemNameRules.{name_from, item_name_rule}
use Rattle.imap_types.specs.Octets.{lower}

-- rest = empty / SP *text
abbrev pub rest_rule : ℕ → Move Sym
rest_rule c =
    if c == 32 then move.One (sym.Line line.Text)
    else if c == 13 then move.One (sym.Line (line.Fixed phrase.Crlf 1)) else move.Fail

-- a space, and then the rest of the line
abbrev pub spaced_rule : Move Sym → ℕ → Move Sym
spaced_rule m c = if c == 32 then m else move.Fail

-- the end of the line
abbrev pub end_rule : ℕ → Move Sym
end_rule c = if c == 13 then move.One (sym.Line (line.Fixed phrase.Crlf 1)) else move.Fail

-- after a word that is a key
abbrev pub behind_key : WordPlace → Key → ℕ → Move Sym
behind_key place.Tagged key.Ok c = rest_rule c
behind_key place.Tagged key.No c = rest_rule c
behind_key place.Tagged key.Bad c = rest_rule c
behind_key place.Plain key.Ok c = rest_rule c
behind_key place.Plain key.No c = rest_rule c
behind_key place.Plain key.Bad c = rest_rule c
behind_key place.Plain key.Preauth c = rest_rule c
behind_key place.Plain key.Bye c = rest_rule c
behind_key place.Plain key.Capability c = words_more c
behind_key place.Plain key.Enabled c = words_more c
behind_key place.Plain key.Flags c = spaced_rule (move.Two (sym.Names names.Open) (sym.Line (line.Fixed phrase.Crlf 0))) c
behind_key place.Plain key.Vanished c = spaced_rule (move.One (sym.Set set.Open)) c
behind_key place.Plain key.List c = spaced_rule (move.Two (sym.Names names.Open) (sym.Folder folder.Attributes)) c
behind_key place.Plain key.Status c = spaced_rule (move.Two (sym.Str str.AString) (sym.Folder folder.Counts)) c
behind_key place.Numbered key.Exists c = end_rule c
behind_key place.Numbered key.Expunge c = end_rule c
behind_key place.Numbered key.Fetch c = spaced_rule (move.One (sym.Item item.Open)) c
behind_key place.Item key.Uid c = spaced_rule (move.One (sym.Item (item.Number 0 0))) c
behind_key place.Item key.Flags c = spaced_rule (move.One (sym.Names names.Open)) c
behind_key place.Item key.ModSeq c = spaced_rule (move.One (sym.Item item.LongOpen)) c
behind_key place.Item key.InternalDate c = spaced_rule (move.One (sym.Date date.Open)) c
behind_key place.Item key.Size c = spaced_rule (move.One (sym.Item (item.Long 0 0))) c
behind_key place.Item key.Header c = spaced_rule (move.One (sym.Str str.NString)) c
behind_key place.Item key.HeaderPart c = spaced_rule (move.One (sym.Str str.NString)) c
behind_key place.Item key.Body c = spaced_rule (move.One (sym.Str str.NString)) c
behind_key place.Item key.BodyPart c = spaced_rule (move.One (sym.Str str.NString)) c
behind_key place.Month k c = time_rule 0 c
behind_key _ _ c = move.Fail

-- at a word that is none
abbrev pub stray : WordPlace → Key → ℕ → ℕ → Move Sym
stray place.Plain key at c = text_rule pending.Nothing c
stray place.Numbered key at c = text_rule pending.Nothing c
stray place.Item key at c = item_name_rule (name_from name.Plain (take at (key_text key))) c
stray _ key at c = move.Fail

abbrev pub word_goes : WordPlace → Key → ℕ → ℕ → Option Key → Move Sym
word_goes place key at c (Some k) = move.One (sym.Word place k (at + 1))
word_goes place key at c None = stray place key at c

abbrev pub word_ends : WordPlace → Key → ℕ → ℕ → Option Key → Move Sym
word_ends place key at c (Some k) = behind_key place k c
word_ends place key at c None = stray place key at c

abbrev pub word_rule : WordPlace → Key → ℕ → ℕ → Move Sym
word_rule place key at c =
    if in_word place c then word_goes place key at c (next_key place key at (lower c))
    else if at == 0 then move.Fail
    else word_ends place key at c (whole_key place key at)
