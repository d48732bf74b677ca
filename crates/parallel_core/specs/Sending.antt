-- The contents of the messages of a port, and how it sends more.
use Rattle.std.specs.Prelude.{◌≡◌, List, ◌++◌, map}
use mathlib.Core.List.{IsPrefix}
use Rattle.deliver_core.specs.declared.outlet.Outlet.{Outlet}
use Rattle.deliver_core.specs.declared.port.Port.{Port}
use Rattle.deliver_core.specs.OutletCalls.{IsOpenPort}
use Rattle.deliver_core.specs.Ports.{index_of, sent_by}
use Rattle.deliver_core.specs.Scripts.{Content, content_of}

-- the contents of the messages that a port has sent, in order
abbrev pub said_by : Port → List Content
said_by port = map content_of (sent_by port)

-- the port may put messages as before, with the same index
pub record StaysOpen (outlet : Outlet) (old new : Port) : Type 0 where
  pub ready : IsOpenPort outlet new
  pub index : index_of new ≡ index_of old

-- the port has also sent these contents
abbrev pub Says : Port → Port → List Content → Type 0
Says old new more = said_by new ≡ said_by old ++ more

-- the port has also sent a prefix of these contents
abbrev pub SaysPart : Port → Port → List Content → Type 0
SaysPart old new more = (part : List Content) × IsPrefix part more × Says old new part
