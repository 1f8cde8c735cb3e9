use Rattle.std.proofs.Common.{rules}
use Rattle.sizing_cli.proofs.ReplaceableTexts.{fault_known, replaceable_known}
use Rattle.sizing_cli.proofs.certificate_file.ensure_certificate.Goals as goal

pub returns-in-Ok-Some-clause-replaceable : goal.returns-in-Ok-Some-clause-replaceable
returns-in-Ok-Some-clause-replaceable g c = replaceable_known c.ensure_replaceable_text.result _ _ c.deref.result.now c.in-Ok-Some.ensures.bytes (search rules) c.ensure_replaceable_text.ensures.replaceable

pub returns-in-Ok-Some-clause-fault : goal.returns-in-Ok-Some-clause-fault
returns-in-Ok-Some-clause-fault g c = fault_known c.ensure_replaceable_text.result _ _ _ c.deref.result.now c.in-Ok-Some.ensures.bytes (search rules) c.ensure_replaceable_text.ensures.fault
