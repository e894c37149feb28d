use Rattle.std.proofs.Common.{map, take, length}
use Rattle.httparse.specs.Spans.{header_bytes}
use Rattle.http_service.specs.Fields.{values_of}
use Rattle.http_service.specs.reading.Values.{AreValues, AreWithin}
use Rattle.http_service.proofs.fields.values_of.Given as goal

abbrev pub invariant-loop-field : goal.invariant-loop-field
invariant-loop-field l =
    record {
      values : AreValues l.octets (values_of l.name (map (header_bytes l.octets) (take l.field-index l.fields))) l.values;
      within : AreWithin (length l.octets) l.values;
    }
