-- What is asked as the code has it.
use Rattle.std.specs.Prelude.{map, option_map}
use Rattle.set_arguments.specs.Arguments as spec
use Rattle.set_arguments.specs.declared.asked.SetAsked.{SetAsked}
use Rattle.set_arguments.specs.reading.Keys.{keyed_data}

abbrev pub asked_data : SetAsked → spec.SetAsked
asked_data a = record {
  state = option_map (λ t. t.now) a.state;
  create = map keyed_data a.create.items;
  update = map keyed_data a.update.items;
  destroy = map (λ t. t.now) a.destroy.items;
  removes = a.removes;
}
