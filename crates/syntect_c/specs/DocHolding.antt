-- What the handle of a document owns.
use Rattle.std.specs.Prelude.{Option, Some, None}
use base.Fml.{Fml, ftrue}
use base.Stored.{Coded}
use denote.RawPtr.{Ptr}
use Rattle.std.specs.Box.Ownership.{box_owns}
use Rattle.std.specs.Coded.{coded_option}
use Rattle.std.specs.Global.{Global}
use Rattle.std_heap.specs.contracts.GlobalAllocator.TheImpl.{ghosts}
use Rattle.syntect_c.specs.declared.document.DocContent.{DocContent}
use Rattle.syntect_c.specs.contracts.document.DocContent.{the_row}

-- ---- For proofs and private functions alone ----

-- nothing, or what a box of the content owns
abbrev pub doc_owns : Global → Ptr → Option DocContent → Fml
doc_owns alloc at None = ftrue
doc_owns alloc at (Some content) = box_owns (ghosts.dealloc_token alloc) the_row at content

-- what is held as a value of a ghost field
abbrev pub doc_coded : Coded (Option DocContent)
doc_coded = coded_option the_row.coded
