-- The cause of a read of a whole file, of the cause of one call.
use Rattle.net_io.specs.declared.reading.FileFail.{FileFail}
use Rattle.net_io.specs.declared.reading.FileFail.TheVariants as file
use Rattle.net_io.specs.declared.reading.ReadFail.{ReadFail}
use Rattle.net_io.specs.declared.reading.ReadFail.TheVariants.{Failed, Absent, NoMemory}

-- the same cause
abbrev pub read_fail_of : FileFail → ReadFail
read_fail_of file.Failed = Failed
read_fail_of file.Absent = Absent
read_fail_of file.NoMemory = NoMemory
