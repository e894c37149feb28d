use Rattle.std.proofs.Common.{◌≡◌, ◌+◌, ◌++◌, List, take}
use Rattle.change_list.specs.Kept.{IsOf}
use Rattle.change_list.specs.declared.entries.Entry.{Entry}
use Rattle.served_maps.proofs.note.note.Given as goal

abbrev pub invariant-loop-touch : goal.invariant-loop-touch
invariant-loop-touch l = record {
  place : l.list.place ≡ l.fn.list.place + l.touch-index;
  noted : (h : List Entry) → IsOf l.fn.list h → IsOf l.list (h ++ take l.touch-index l.touches);
}
