use Rattle.syntect_example_folder_page.proofs.folder.page_by_folder.Goals as goal

pub returns : goal.returns
returns g c =
    let law = c.loaded_sets_are_built.ensures in
    let none = law.builders.nothing c.new-builder.result c.new-builder.ensures.definitions in
    let plain = law.builders.plain_text _ _ _ _ none c.in_ok-add_plain_text_syntax.ensures.ok in
    let all = c.folders_are_loaded.ensures.folder _ _ _ _ _ _ plain c.in_ok-add_from_folder.ensures.ok in
    let of_loaded = law.builders.built c.add_from_folder.new.self c.in_ok-set.set all c.in_ok-set.ensures.linked in
    let one = law.found.extension c.in_ok-set.set _ c.in-Some.syntax.now c.in-Some.ensures in
    let meets = law.premises _ _ of_loaded one in
    record {
      nothing = c.new-builder.result;
      plain = c.add_plain_text_syntax.new.self;
      all = c.add_from_folder.new.self;
      left = c.add_plain_text_syntax.new.repository;
      found = c.add_from_folder.new.repository;
      no_definition = c.new-builder.ensures.definitions;
      adds_plain = c.in_ok-add_plain_text_syntax.ensures.ok;
      adds_folder = c.in_ok-add_from_folder.ensures.ok;
      set = c.in_ok-set.set;
      links = c.in_ok-set.ensures.linked;
      syntax = c.in-Some.syntax.now;
      last = c.in-Some.ensures;
      shows = c.in_ok-page.ensures.page meets.definitions meets.built_of;
    }
