use Rattle.std.proofs.Common.{◌≡◌, drop, map}
use Rattle.std.specs.List.{list_all}
use Rattle.read_methods.specs.Threads.{is_thread_property}
use Rattle.read_methods.proofs.threads.are_properties.Given as goal

-- all are where the rest are
abbrev pub invariant-loop-name : goal.invariant-loop-name
invariant-loop-name l = list_all is_thread_property (map (λ t. t.now) l.name-items)
    ≡ list_all is_thread_property (map (λ t. t.now) (drop l.name-index l.name-items))
