-- The file to which a certificate is written.
use Rattle.std.proofs.Common.{List, [], Option, Some, None, ap, sym, append-nil}
use Rattle.sizing_cli.specs.FileWrites.{AppendsWrites, FileWrite}

pub no_writes : (known : Option (List FileWrite)) → AppendsWrites known known []
no_writes (Some writes) = ap (λ (l : List FileWrite). Some l) (sym (append-nil writes))
no_writes None = tt
