use Rattle.std.proofs.Common.{ℕ, List}
use Rattle.syntect_theme.specs.declared.theme.Theme.{Theme}
use Rattle.syntect_theme_files.specs.ThemeFiles.{IsThemeOf}
use Rattle.syntect_theme_files.proofs.FileLaws.{bytes_read, read_refused, read_whole}
use Rattle.syntect_theme_files.proofs.theme_set.ThemeSet.load_from_reader.Goals as goal

pub returns-clause-ok : goal.returns-clause-ok
returns-clause-ok g c =
    let left = g.R.Read.remaining c.args.reader.now in
    let bytes = c.as_slice.result.now in
    read_whole left bytes (λ (all : List ℕ) (theme : Theme). IsThemeOf c.args.repository.now all c.theme_read.new.repository theme) c.read_to_end-read.result c.theme_read.result
    (bytes_read c.read_to_end-read.result left bytes c.read_to_end-read.new.buf.items c.new-bytes.result.items c.as_slice.ensures.value c.new-bytes.ensures.items c.read_to_end-read.ensures.bytes)
    c.theme_read.ensures.fault c.theme_read.ensures.ok

pub returns-clause-err : goal.returns-clause-err
returns-clause-err g c =
    let left = g.R.Read.remaining c.args.reader.now in
    let bytes = c.as_slice.result.now in
    read_refused left bytes c.read_to_end-read.result c.theme_read.result
    (bytes_read c.read_to_end-read.result left bytes c.read_to_end-read.new.buf.items c.new-bytes.result.items c.as_slice.ensures.value c.new-bytes.ensures.items c.read_to_end-read.ensures.bytes)
    c.theme_read.ensures.fault c.theme_read.ensures.err
