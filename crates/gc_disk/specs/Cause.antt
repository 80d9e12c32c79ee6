-- Why the system refused a call on a file.
use Rattle.std.specs.declared.io.ErrorKind.{ErrorKind}
use Rattle.std.specs.declared.io.ErrorKind.TheVariants as kind
use Rattle.gc_disk.specs.declared.cause.Cause.{Cause}
use Rattle.gc_disk.specs.declared.cause.Cause.TheVariants as cause

-- the cause that the kind of an error tells
abbrev pub cause_of : ErrorKind → Cause
cause_of kind.NotFound = cause.NotFound
cause_of kind.PermissionDenied = cause.NotPermitted
cause_of kind.IsADirectory = cause.IsDirectory
cause_of kind.BrokenPipe = cause.ClosedPipe
cause_of kind.StorageFull = cause.FullDisk
cause_of kind.InvalidInput = cause.NotWritten
cause_of _ = cause.Other
