-- Document 01, When the panel answers no: the numbers of the statuses.
use Rattle.std.specs.Prelude.{ℕ}
use Rattle.service.specs.declared.Status.{Status}
use Rattle.service.specs.declared.Status.TheVariants.{Success, InvalidParameter, Unsupported, TooSmall, DeviceError, VolumeFull}

abbrev pub number : Status → ℕ
number Success = 0
number InvalidParameter = 2
number Unsupported = 3
number TooSmall = 5
number DeviceError = 7
number VolumeFull = 11
