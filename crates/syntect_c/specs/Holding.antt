-- What a handle owns.
use Rattle.std.specs.Prelude.{Option, Some, None}
use base.Fml.{Fml, ftrue}
use base.Stored.{Coded}
use denote.RawPtr.{Ptr}
use Rattle.std.specs.Box.Ownership.{box_owns}
use Rattle.std.specs.Coded.{coded_option}
use Rattle.std.specs.Global.{Global}
use Rattle.std_heap.specs.contracts.GlobalAllocator.TheImpl.{ghosts}
use Rattle.syntect_c.specs.declared.set.SetContent.{SetContent}
use Rattle.syntect_c.specs.contracts.set.SetContent.{the_row}

-- ---- For proofs and private functions alone ----

-- nothing, or what a box of the content owns
abbrev pub handle_owns : Global → Ptr → Option SetContent → Fml
handle_owns alloc at None = ftrue
handle_owns alloc at (Some content) = box_owns (ghosts.dealloc_token alloc) the_row at content

-- what is held as a value of a ghost field
abbrev pub held_coded : Coded (Option SetContent)
held_coded = coded_option the_row.coded
