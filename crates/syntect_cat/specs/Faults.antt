-- The lines that tell of faults.
use Rattle.std.specs.Prelude.{ℕ, List, ◌++◌, codes, decimal, string_bytes}
use Rattle.syntect_cat.specs.syntect_base.declared.limits.LimitReached.{LimitReached}
use Rattle.syntect_cat.specs.syntect_base.declared.limits.LimitReached.TheVariants as reached
use Rattle.syntect_cat.specs.syntect_grammar.declared.error.Error.{Error}
use Rattle.syntect_cat.specs.syntect_grammar.declared.error.Error.TheVariants as error
use Rattle.syntect_cat.specs.declared.fault.Fault.{Fault}
use Rattle.syntect_cat.specs.declared.fault.Fault.TheVariants.{Syntaxes, Limit, Theme, File, Highlighting, Writing}

-- ---- For proofs and private functions alone ----

-- the line after words that ask for nothing
abbrev pub usage_line : List ℕ
usage_line = codes "usage: syncat FOLDER THEME html|term FILE\n"

-- the line of a fault, without what a limit says
abbrev pub plain_line : Fault → List ℕ
plain_line Syntaxes = codes "syncat: cannot load syntaxes\n"
plain_line (Limit r path) = codes "syncat: cannot load syntaxes\n"
plain_line Theme = codes "syncat: cannot load theme\n"
plain_line File = codes "syncat: cannot read file\n"
plain_line Highlighting = codes "syncat: cannot highlight\n"
plain_line Writing = codes "syncat: cannot write\n"

-- the item of this number of a context
abbrev pub place_text : ℕ → List ℕ → List ℕ
place_text item context = decimal item ++ (codes " of context '" ++ (context ++ codes "'"))

-- what a limit says: which it is, and in which item of which context it is reached
abbrev pub limit_text : LimitReached → List ℕ
limit_text reached.Text = codes "too many bytes in the text"
limit_text (reached.Pattern place) =
    codes "too many bytes in a pattern of item " ++ place_text place.item place.context
limit_text (reached.Patterns place) =
    codes "too many bytes in the patterns up to item " ++ place_text place.item place.context
limit_text reached.Folder = codes "too many bytes in the grammars of the folder"

-- the line of a fault; that of a limit names the file of the grammar
abbrev pub fault_line : Fault → List ℕ
fault_line (Limit r path) =
    codes "syncat: cannot load syntaxes: "
    ++ (string_bytes path ++ (codes ": " ++ (limit_text r ++ codes "\n")))
fault_line fault = plain_line fault

-- the fault that is reported where there is no memory for the line
abbrev pub without_limit : Fault → Fault
without_limit (Limit r path) = Syntaxes
without_limit fault = fault

-- the fault that a refusal to highlight is: that of the file where it was not read, or is no UTF-8
abbrev pub fault_of : Error → Fault
fault_of (error.Io e) = File
fault_of (error.LoadingError e) = Highlighting
fault_of (error.ParsingError e) = Highlighting
fault_of (error.ScopeError e) = Highlighting
fault_of (error.Fmt e) = Highlighting
fault_of error.NoSyntax = Highlighting
fault_of (error.ParseSyntax e) = Highlighting
fault_of (error.ParseScope e) = Highlighting
fault_of (error.Pattern e) = Highlighting
fault_of error.Memory = Highlighting
