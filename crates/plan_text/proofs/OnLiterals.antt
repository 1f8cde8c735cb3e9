-- The definitions that a proof unfolds to compute the plan of a literal text.
use Rattle.std.specs.Prelude.{⊤}
use Rattle.std.specs.Str.{chars, is_utf8}
use Rattle.toml.proofs.OnLiterals.{toml_on_literals}
use Rattle.plan_text.specs.Document.{document_of, list_at}
use Rattle.plan_text.specs.Entry.{entry_of, text_at, number_at, size_at, flag_at, texts_at}
use Rattle.plan_text.specs.Entries.{read_pool, read_class, read_client, entries_of}
use Rattle.plan_text.specs.Checks.{check_pools, check_classes, check_clients}
use Rattle.plan_text.specs.ParsedActions.{parse_units, parse_submit_as, parse_submit, parse_action_of_verb, parse_action}
use Rattle.plan_text.specs.Bodies.{action_at, body_of}
use Rattle.plan_text.specs.PlanOf.{plan_of_entries, plan_of}

unfoldable pub plan_on_literals : ⊤
unfolding toml_on_literals chars is_utf8 document_of list_at entry_of text_at number_at size_at flag_at texts_at read_pool read_class read_client entries_of check_pools check_classes check_clients parse_units parse_submit_as parse_submit parse_action_of_verb parse_action action_at body_of plan_of_entries plan_of
plan_on_literals = tt
