-- Whether a report has groups of stacks, for private clauses.
use Rattle.std.specs.Prelude.{◌&&◌, Bool}
use Rattle.std.specs.List.{list_any}
use Rattle.ht_print.specs.declared.options.PrintOptions.{PrintOptions}
use Rattle.ht_print.specs.Sections.{all_sections, is_wanted}

-- stacks are merged in some section
abbrev pub has_groups : PrintOptions → Bool
has_groups options = options.merge && list_any (is_wanted options) all_sections
