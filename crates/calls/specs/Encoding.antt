-- The layout that an encoded command holds.
use Rattle.std.specs.Prelude.{take}
use Rattle.calls.specs.Layout.{Layout, laid}
use Rattle.calls.specs.declared.encoded.Encoded.{Encoded}

abbrev pub written : Encoded → Layout
written e = laid e.kind (take e.count e.words)
