use Rattle.std.proofs.Common.{refl}
use Rattle.cert_text.proofs.Lists.{count_members-members_view}
use Rattle.sizing_cli.proofs.certificate_file.member_count.Goals as goal

pub returns-in-Some : goal.returns-in-Some
returns-in-Some c = rw (← c.in-Some.ensures, count_members-members_view, c.len.ensures.len) refl
