-- Builders and sets of definitions that were loaded, and what is found in them.
use Rattle.std.proofs.Common.{◌≡◌, ℕ, Bool, List, [], ◌∷◌, ◌++◌, sym, subst, Ok}
use Rattle.std.specs.Prelude.{Option, Some, All, ◌==◌, codes, unwrap_or}
use Rattle.std.specs.Option.{option_or}
use Rattle.std.proofs.lemmas.List.Elements.{All-append, All-cons, All-nil}
use Rattle.std.specs.Cmp.Lexicographic.{pointwise}
use Rattle.std.specs.Path.{path_file_name, path_extension}
use Rattle.std.specs.Str.{str_eq_ignore_ascii_case}
use Rattle.syntect_grammar_limits.proofs.FolderLaws.{added_within, without_limits}
use Rattle.syntect_grammar_limits.specs.WhatLoads as what_loads
use Rattle.syntect_grammar_limits.specs.declared.lenient.PassedOver.{PassedOver}
use Rattle.syntect_easy.specs.syntect_base.Trees.{Answer}
use Rattle.syntect_easy.specs.syntect_base.declared.limits.Limits.{Limits}
use Rattle.syntect_easy.specs.syntect_grammar.Finding.{found_by_name, found_by_extension, found_by_token, found_by_file_name, found_by_first_line, last_fitting, has_extension, fits_line, without_mark}
use Rattle.syntect_easy.specs.syntect_grammar.Folders.{AddsSyntaxes, AddsMetadata, entry_added, passed_over, no_more, other, grammar, metadata}
use Rattle.syntect_easy.specs.syntect_grammar.Link.{definitions_in, syntaxes_in, linked}
use Rattle.syntect_easy.specs.syntect_grammar_loader.Loading.{loaded}
use Rattle.syntect_easy.specs.syntect_grammar_loader.declared.definition.SyntaxDefinition.{SyntaxDefinition}
use Rattle.syntect_easy.specs.syntect_grammar_contexts.declared.syntax_reference.SyntaxReference.{SyntaxReference}
use Rattle.syntect_easy.specs.syntect_grammar.declared.syntax_set.SyntaxSet.{SyntaxSet}
use Rattle.syntect_easy.specs.syntect_grammar.declared.syntax_set.SyntaxSetBuilder.{SyntaxSetBuilder}
use Rattle.syntect_easy.specs.Built.{IsLoaded, IsPlain, IsSyntaxOfBuilt}
use Rattle.syntect_easy.specs.Loaded.{HoldsLoaded, IsOneOf, BuildersHold, FoldersHold, FindsOwn}
use Rattle.syntect_easy.proofs.FileLaws.{place_found, either_found}

-- ---- builders ----

loaded_as : (text : List ℕ) (newlines : Bool) (fallback : Option (List ℕ)) (repository left : List (List ℕ)) (d : SyntaxDefinition)
    → loaded text newlines fallback repository ≡ Ok (d, left) → IsLoaded d
loaded_as text newlines fallback repository left d e =
    record { text = text; lines_include_newline = newlines; fallback = fallback; repository = repository; left = left; loads = e }

one_more : (ds : List SyntaxDefinition) (d : SyntaxDefinition) → All IsLoaded ds → IsLoaded d → All IsLoaded (ds ++ d ∷ [])
one_more ds d h l = All-append IsLoaded ds (d ∷ []) h (All-cons IsLoaded d [] l (All-nil IsLoaded))

holds_more : (old new : SyntaxSetBuilder) (d : SyntaxDefinition) → HoldsLoaded old → IsLoaded d → definitions_in new ≡ definitions_in old ++ d ∷ [] → HoldsLoaded new
holds_more old new d h l e = subst (All IsLoaded) (sym e) (one_more (definitions_in old) d h l)

-- metadata leaves the definitions
holds_entry : (Told : Answer → Type 0) (path : List ℕ) (old new : SyntaxSetBuilder) → HoldsLoaded old → AddsMetadata Told path old new → HoldsLoaded new
holds_entry Told path old _ h (entry_added t e) = h
holds_entry Told path old _ h (passed_over e n) = h

holds_files : (Told : Answer → Type 0) (newlines : Bool) (files before after : List (List ℕ)) (builder all : SyntaxSetBuilder) → HoldsLoaded builder → AddsSyntaxes Told newlines files before builder after all → HoldsLoaded all
holds_files Told newlines _ _ _ _ _ h no_more = h
holds_files Told newlines _ _ _ _ _ h (other e f a) = holds_files Told newlines _ _ _ _ _ h a
holds_files Told newlines _ _ _ builder _ h (grammar {d = d} e t l a) =
    holds_files Told newlines _ _ _ _ _ (one_more (definitions_in builder) d h (loaded_as _ _ _ _ _ _ l.loads)) a
holds_files Told newlines _ _ _ builder _ h (metadata {path = path} {next = next} e m a) = holds_files Told newlines _ _ _ _ _ (holds_entry Told path builder next h m) a

holds_what_loads : (Told : Answer → Type 0) (limits : Limits) (newlines : Bool) (room rest : ℕ) (files before after : List (List ℕ)) (builder all : SyntaxSetBuilder) (passed : List PassedOver)
    → HoldsLoaded builder → what_loads.AddsWhatLoads Told limits newlines room files before builder passed rest after all → HoldsLoaded all
holds_what_loads Told limits newlines _ _ _ _ _ _ _ _ h what_loads.no_more = h
holds_what_loads Told limits newlines _ _ _ _ _ _ _ _ h (what_loads.added a more) =
    holds_what_loads Told limits newlines _ _ _ _ _ _ _ _ (holds_files Told newlines _ _ _ _ _ h (without_limits Told limits newlines a)) more
holds_what_loads Told limits newlines _ _ _ _ _ _ _ _ h (what_loads.passed_over s n k more) = holds_what_loads Told limits newlines _ _ _ _ _ _ _ _ h more

pub builders_hold : BuildersHold
builders_hold = record {
  nothing = λ builder e. subst (All IsLoaded) (sym e) (All-nil IsLoaded);
  one = λ old new text newlines fallback repository left d h l e. holds_more old new d h (loaded_as text newlines fallback repository left d l) e;
  plain_text = λ old new before after h a. holds_more old new a.definition h (loaded_as _ _ _ _ _ _ a.loads) a.definitions;
  built = λ builder set h e. (definitions_in builder, e, h);
}

pub folders_hold : (Told : Answer → Type 0) → FoldersHold Told
folders_hold Told = record {
  folder = λ newlines path before after old new h a. holds_files Told newlines a.files before after old new h a.adds;
  folder_within = λ limits newlines path before after old new h a.
      let b = added_within Told limits newlines path before old after new a in
      holds_files Told newlines b.files before after old new h b.adds;
  what_loads = λ limits newlines path before after old new passed h a. holds_what_loads Told limits newlines limits.folder a.rest a.files before after old new passed h a.adds;
}

-- ---- what is found ----

last_one : (set : SyntaxSet) (fits : SyntaxReference → Bool) (syntax : SyntaxReference) → Some syntax ≡ last_fitting fits (syntaxes_in set) → IsOneOf set syntax
last_one set fits syntax e = place_found fits (syntaxes_in set) syntax (sym e)

either_one : (set : SyntaxSet) (a b : Option SyntaxReference) (syntax : SyntaxReference) → (Some syntax ≡ a → IsOneOf set syntax) → (Some syntax ≡ b → IsOneOf set syntax)
    → Some syntax ≡ option_or a b → IsOneOf set syntax
either_one set a b syntax f g e = either_found a b syntax (IsOneOf set syntax) (λ h. f (sym h)) (λ h. g (sym h)) (sym e)

found_extension : (set : SyntaxSet) (extension : List ℕ) (syntax : SyntaxReference) → Some syntax ≡ found_by_extension set extension → IsOneOf set syntax
found_extension set extension syntax e = last_one set (has_extension extension) syntax e

found_name : (set : SyntaxSet) (name : List ℕ) (syntax : SyntaxReference) → Some syntax ≡ found_by_name set name → IsOneOf set syntax
found_name set name syntax e = last_one set (λ s. pointwise ◌==◌ s.name name) syntax e

found_token : (set : SyntaxSet) (token : List ℕ) (syntax : SyntaxReference) → Some syntax ≡ found_by_token set token → IsOneOf set syntax
found_token set token syntax e =
    either_one set (found_by_extension set token) (last_fitting (λ s. str_eq_ignore_ascii_case s.name token) (syntaxes_in set)) syntax
    (λ h. found_extension set token syntax h)
    (λ h. last_one set (λ s. str_eq_ignore_ascii_case s.name token) syntax h) e

found_line : (set : SyntaxSet) (line : List ℕ) (syntax : SyntaxReference) → Some syntax ≡ found_by_first_line set line → IsOneOf set syntax
found_line set line syntax e = last_one set (fits_line (without_mark line)) syntax e

found_file_name : (set : SyntaxSet) (path : List ℕ) (syntax : SyntaxReference) → Some syntax ≡ found_by_file_name set path → IsOneOf set syntax
found_file_name set path syntax e =
    let name : List ℕ = unwrap_or (path_file_name path) [] in
    let extension : List ℕ = unwrap_or (path_extension path) [] in
    either_one set (found_by_extension set name) (found_by_extension set extension) syntax
    (λ h. found_extension set name syntax h) (λ h. found_extension set extension syntax h) e

pub finds_own : FindsOwn
finds_own = record {
  scope = λ set scope syntax e. last_one set (λ s. pointwise ◌==◌ s.scope scope) syntax e;
  name = found_name;
  extension = found_extension;
  token = found_token;
  first_line = found_line;
  plain_text = λ set syntax e. found_name set (codes "Plain Text") syntax e;
  file = λ set path line syntax e.
      either_one set (found_by_file_name set path) (found_by_first_line set line) syntax
      (λ h. found_file_name set path syntax h) (λ h. found_line set line syntax h) e;
}

-- ---- the premises ----

pub built_of : (set : SyntaxSet) (syntax : SyntaxReference) (definitions : List SyntaxDefinition) → syntaxes_in set ≡ linked definitions → All IsPlain definitions → IsOneOf set syntax
    → IsSyntaxOfBuilt set syntax definitions
built_of set syntax definitions e p o = record { links = e; place = o.0; among = o.1; plain = p }
