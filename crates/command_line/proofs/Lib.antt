mod ApplicationLemmas
mod Numbers
mod Subcommands
