pub mod WithPorts
