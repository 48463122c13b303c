-- The commands that a line may look like, by their words.
use Rattle.std.specs.Prelude.{ℕ, List, codes}
use Rattle.look_alikes.specs.declared.command.Command.{Command}
use Rattle.look_alikes.specs.declared.command.Command.TheVariants as command

abbrev pub command_text : Command → List ℕ
command_text command.Hostname = codes "hostname"
command_text command.Interface = codes "interface"
command_text command.StaticRoute = codes "ip route"
command_text command.InnerRule = codes "ip nat inside source static"
command_text command.OuterRule = codes "ip nat outside source static"
command_text command.NumberedList = codes "access-list"
command_text command.NamedList = codes "ip access-list"
command_text command.Banner = codes "banner"
command_text command.NoHostname = codes "no hostname"
command_text command.NoInterface = codes "no interface"
command_text command.DefaultInterface = codes "default interface"
command_text command.Address = codes "ip address"
command_text command.NoAddress = codes "no ip address"
command_text command.Shutdown = codes "shutdown"
command_text command.NoShutdown = codes "no shutdown"
command_text command.AccessGroup = codes "ip access-group"
command_text command.Inside = codes "ip nat inside"
command_text command.Outside = codes "ip nat outside"
command_text command.NoAccessGroup = codes "no ip access-group"
command_text command.NoTranslation = codes "no ip nat"
command_text command.DefaultAddress = codes "default ip address"
command_text command.DefaultAccessGroup = codes "default ip access-group"
