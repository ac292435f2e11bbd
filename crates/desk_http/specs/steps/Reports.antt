-- The definitions' report for a value of the code, given the names of a path.
use Rattle.std.specs.Prelude.{ℕ, List}
use Rattle.desk_http.specs.declared.reports.Wanted.{Wanted}
use Rattle.desk_http.specs.declared.reports.Wanted.TheVariants.{OwnerReport, BandReport, Room, Log, Listing, Device, Receptions, Downlinks}
use Rattle.desk_http.specs.Reports.{Report, owner_report, band_report, room_report, log_part, list_of, device_report, reception_report, downlink_report}
use Rattle.desk_http.specs.steps.Targets.{after_slash, before_slash}

abbrev pub report_of : List ℕ → Wanted → Report
report_of names OwnerReport = owner_report (before_slash names) (after_slash names)
report_of names BandReport = band_report names
report_of names Room = room_report (before_slash names) (after_slash names)
report_of names (Log which from) = log_part which from
report_of names (Listing of) = list_of of
report_of names Device = device_report names
report_of names Receptions = reception_report (before_slash names) (after_slash names)
report_of names Downlinks = downlink_report (before_slash names) (after_slash names)
