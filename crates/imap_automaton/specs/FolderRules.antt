-- LIST and STATUS, after the first of their parts.
use Rattle.std.specs.Prelude.{ℕ, ◌||◌, ◌==◌, if◌then◌else◌}
use Rattle.imap_keywords.specs.declared.phrase.Phrase.TheVariants as phrase
use Rattle.imap_automaton.specs.declared.sym.Line.TheVariants as line
use Rattle.imap_automaton.specs.declared.sym.Item.TheVariants as item
use Rattle.imap_automaton.specs.declared.sym.Str.TheVariants as str
use Rattle.imap_automaton.specs.declared.sym.Value.TheVariants as value
use Rattle.imap_automaton.specs.declared.sym.Folder.{Folder}
use Rattle.imap_automaton.specs.declared.sym.Folder.TheVariants as folder
use Rattle.imap_automaton.specs.declared.sym.Sym.TheVariants as sym
use Rattle.imap_automaton.specs.declared.sym.Sym.{Sym}
use Rattle.pushdown.specs.declared.moves.Move.{Move}
use Rattle.pushdown.specs.declared.moves.Move.TheVariants as move
use Rattle.imap_types.specs.Octets.{is_text, is_status_word, lower}

-- one octet, and then a symbol
abbrev pub octet_rule : ℕ → Folder → ℕ → Move Sym
octet_rule octet next c = if c == octet then move.One (sym.Folder next) else move.Fail

abbrev pub folder_rule : Folder → ℕ → Move Sym
folder_rule folder.Attributes c = if c == 32 then move.Two (sym.Folder folder.Delimiter) (sym.Folder folder.Name) else move.Fail
folder_rule folder.Delimiter c =
    if c == 34 then move.One (sym.Folder folder.DelimiterOctet)
    else if lower c == 110 then move.One (sym.Line (line.Folded phrase.Nil 1)) else move.Fail
folder_rule folder.DelimiterOctet c =
    if c == 34 then move.Fail
    else if c == 92 then move.One (sym.Folder folder.DelimiterEscaped)
    else if is_text c then move.One (sym.Line (line.Fixed phrase.Quote 0)) else move.Fail
folder_rule folder.DelimiterEscaped c = if c == 34 || c == 92 then move.One (sym.Line (line.Fixed phrase.Quote 0)) else move.Fail
folder_rule folder.Name c = if c == 32 then move.Two (sym.Str str.AString) (sym.Folder folder.ListEnd) else move.Fail
folder_rule folder.ListEnd c =
    if c == 32 then move.Two (sym.Value value.Start) (sym.Line (line.Fixed phrase.Crlf 0))
    else if c == 13 then move.One (sym.Line (line.Fixed phrase.Crlf 1)) else move.Fail
folder_rule folder.Counts c = octet_rule 32 folder.CountsOpen c
folder_rule folder.CountsOpen c = octet_rule 40 folder.FirstCount c
folder_rule folder.FirstCount c =
    if c == 41 then move.One (sym.Line (line.Fixed phrase.Crlf 0))
    else if is_status_word c then move.One (sym.Folder folder.CountWord) else move.Fail
folder_rule folder.Count c = if is_status_word c then move.One (sym.Folder folder.CountWord) else move.Fail
folder_rule folder.CountWord c =
    if is_status_word c then move.One (sym.Folder folder.CountWord)
    else if c == 32 then move.Two (sym.Item (item.Long 0 0)) (sym.Folder folder.MoreCounts) else move.Fail
folder_rule folder.MoreCounts c =
    if c == 32 then move.One (sym.Folder folder.Count)
    else if c == 41 then move.One (sym.Line (line.Fixed phrase.Crlf 0)) else move.Fail
